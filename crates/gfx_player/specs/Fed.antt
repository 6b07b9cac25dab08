-- A file of which some blocks were read and taken.
use Rattle.std.specs.Prelude.{◌≡◌, ◌⊎◌, ℕ, List, [], ◌∷◌, ◌++◌, flat_map}
use Rattle.gfx_model.specs.Events.{Event}
use Rattle.gfx_model.specs.Blocks.{Position, Whole, minor_of}
use Rattle.gfx_model.specs.Meaning.{events_onto}
use Rattle.gfx_grammar.specs.Framing.{IsHeader, with_items}
use Rattle.gfx_grammar.specs.Splitting.{blocks_of, with_item}
use Rattle.gfx_decode.specs.Stage.{Stage, At}
use Rattle.gfx_decode.specs.Reading.{IsBlockCut, IsHeaderCut}
use Rattle.gfx_decode.specs.Decoding.{coming}

-- the history of blocks that were taken
abbrev pub history_of : List Whole → List Event
history_of fed = events_onto fed []

-- a header, the bytes of blocks, and what follows them
abbrev pub file_with : List ℕ → List Whole → List ℕ → List ℕ
file_with head fed rest = head ++ flat_map (λ w. w.bytes) fed ++ rest

-- these blocks were read of a file, and a decoder follows them; the blocks are these whatever follows them
pub record IsFed (fed : List Whole) (stage : Stage) (all rest : List ℕ) : Type 0 where
  pub head : List ℕ
  pub header : IsHeader head
  pub parts : all ≡ file_with head fed rest
  pub blocks : (more : List ℕ) → blocks_of (file_with head fed more) ≡ with_items fed (coming stage more)

-- this block comes next, whatever follows it
abbrev pub ComesNext : Stage → Stage → Whole → Type 0
ComesNext old new w = (more : List ℕ) → coming old (w.bytes ++ more) ≡ with_item w (coming new more)

-- bytes that end within one more block behind these, which isn't whole and breaks no step so far
pub record EndsInBlock (fed : List Whole) (given : List ℕ) : Type 0 where
  pub minor : ℕ
  pub at : Position
  pub part : List ℕ
  pub fits : IsFed fed (At minor at) given part
  pub cut : IsBlockCut at part

-- bytes that end within the header, or within a block behind these: what isn't whole there breaks no step so far
abbrev pub IsUnfinished : List Whole → List ℕ → Type 0
IsUnfinished fed given = ((fed ≡ []) × IsHeaderCut given) ⊎ EndsInBlock fed given

-- the blocks of the bytes that were given before a read failed are those that were taken, and the next one isn't whole
pub record IsGiven (fed : List Whole) (all left : List ℕ) : Type 0 where
  pub given : List ℕ
  pub parts : all ≡ given ++ left
  pub blocks : (blocks_of given).items ≡ fed
  pub cut : IsUnfinished fed given
  pub minor : (fed ≡ []) ⊎ (minor_of given ≡ minor_of all)

-- what is left follows the header and the first blocks of a file: these, and behind them this one
pub record IsReadThrough (fed : List Whole) (block : Whole) (bytes left : List ℕ) : Type 0 where
  pub head : List ℕ
  pub header : IsHeader head
  pub later : List Whole
  pub blocks : (blocks_of bytes).items ≡ fed ++ block ∷ later
  pub parts : bytes ≡ file_with head (fed ++ block ∷ []) left
