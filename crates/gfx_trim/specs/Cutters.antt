-- What a cutter stands for, and what a block does to it.
use Rattle.std.specs.Prelude.{◌≡◌, ℕ, ◌+◌, ◌==◌, Bool, true, false, List, [], ◌∷◌, ◌++◌, flat_map, Option, Some, None, option_map, Result, IfOk, IfErr, OnOk}
use Rattle.std.specs.Io.KnownBytes.{Appends}
use Rattle.gfx_io.specs.Pieces.{AppendsPart}
use Rattle.gfx_model.specs.Events.{Event}
use Rattle.gfx_model.specs.Blocks.{Content, Whole}
use Rattle.gfx_model.specs.Spelling.{encoding, header}
use Rattle.gfx_model.specs.Section.{section}
use Rattle.gfx_model.specs.History.{is_valid}
use Rattle.gfx_model.specs.Meaning.{content_fault}
use Rattle.gfx_model.specs.Trimmed.{reaches, boundary, has_boundary, history_to}
use Rattle.gfx_replay.specs.Fed.{frame_by}
use Rattle.gfx_replay.specs.declared.shown.ShownFrame.{ShownFrame}
use Rattle.gfx_player.specs.Fed.{history_of}
use Rattle.gfx_player.specs.Walks.{HasReplayed, Refuses}
use Rattle.gfx_player.specs.declared.fault.PlayFault.{PlayFault}
use Rattle.gfx_player.specs.declared.player.Player.{Player}
use Rattle.gfx_trim.specs.declared.cutter.Cutter.{Cutter}
use Rattle.gfx_trim.specs.Phases.{IsPhase}
use Rattle.gfx_trim.specs.Written.{has_effect, range_in, written_of}

-- these blocks were taken
pub record IsAfter (c : Cutter) (p : Player) (fed : List Whole) : Type 0 where
  pub replayed : HasReplayed p fed
  pub phase : IsPhase c.phase c.first c.last c.kept.items fed

-- a block was replayed, and had no fault
pub record IsFed (p : Player) (fed : List Whole) (w : Whole) : Type 0 where
  pub replayed : HasReplayed p (fed ++ w ∷ [])
  pub fine : content_fault (history_of fed) w.content ≡ None

-- the same range of a file of the same version
pub record IsOfSameRange (old new : Cutter) : Type 0 where
  pub first : new.first ≡ old.first
  pub last : new.last ≡ old.last
  pub minor : new.minor ≡ old.minor

-- the number of the frame that a block shows, if it shows one
abbrev pub number_by : List Event → Content → Option ℕ
number_by h c = option_map (λ f. f.number) (frame_by h c)

-- the number of a frame that is shown, if one is
abbrev pub number_of : Option ShownFrame → Option ℕ
number_of shown = option_map (λ f. f.number) shown

-- whether this is the number of a frame
abbrev pub is_number : ℕ → Option ℕ → Bool
is_number last None = false
is_number last (Some n) = n == last

-- what is written before the first effect of a range
unfoldable pub opening : (m : ℕ) → List Event → (first : ℕ) → (kept : List ℕ) → List ℕ
opening m h first kept = header m ++ flat_map (encoding m 0) (section h first) ++ kept

-- what is written of these blocks
abbrev pub text_by : Cutter → List Whole → List ℕ
text_by c fed = written_of c.minor c.first c.last fed

-- the block is the last of the range
pub record Ends (first last : ℕ) (fed : List Whole) (w : Whole) : Type 0 where
  pub valid : is_valid (history_of (fed ++ w ∷ [])) ≡ true
  pub there : has_boundary first (fed ++ w ∷ []) ≡ true
  pub reached : reaches (last + 1) (history_to (boundary first (fed ++ w ∷ []))) (boundary first (fed ++ w ∷ [])).rest ≡ true
  pub some : has_effect (range_in first last (fed ++ w ∷ [])) ≡ true
  pub shows : number_by (history_of fed) w.content ≡ Some last

-- a block was taken, and the cut goes on behind it
pub record GoesOn (old new : Cutter) (p : Player) (fed : List Whole) (w : Whole) : Type 0 where
  pub after : IsAfter new p (fed ++ w ∷ [])
  pub range : IsOfSameRange old new

-- a block was taken, and it was the last of the range or not
abbrev pub Takes : Bool → Cutter → Cutter → Player → List Whole → Whole → Type 0
Takes true old new p fed w = Ends old.first old.last fed w
Takes false old new p fed w = GoesOn old new p fed w

-- what a call that takes a block answers, leaves and writes, whatever blocks were taken before
pub record TakesBlock (old new : Cutter) (was p : Player) (w : Whole) (before after : Option (List ℕ)) (result : Result Bool PlayFault) : Type 0 where
  -- it answers whether the block was the last of the range
  pub ok : IfOk result (λ last. (fed : List Whole) → IsAfter old was fed → Takes last old new p fed w)
  -- what is to be written of all blocks was written
  pub text : OnOk result ((fed : List Whole) (start : Option (List ℕ)) → IsAfter old was fed → Appends start before (text_by old fed) → Appends start after (text_by old (fed ++ w ∷ [])))
  -- or a prefix of it
  pub front : (fed : List Whole) (start : Option (List ℕ)) → IsAfter old was fed → Appends start before (text_by old fed) → AppendsPart start after (text_by old (fed ++ w ∷ []))
  pub err : IfErr result (λ why. (fed : List Whole) → IsAfter old was fed → Refuses (history_of fed) w why)
