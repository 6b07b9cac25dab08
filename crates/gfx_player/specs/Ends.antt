-- Where a walk through a file stands, and why it ends there.
use Rattle.std.specs.Prelude.{◌≡◌, ◌⊎◌, ℕ, List, [], ◌∷◌, ◌++◌, ⊤}
use Rattle.gfx_types.specs.declared.frame.Frame.{Frame}
use Rattle.gfx_model.specs.Blocks.{Whole, End, minor_of}
use Rattle.gfx_model.specs.Blocks.End.{bad}
use Rattle.gfx_model.specs.Frames.{frames}
use Rattle.gfx_grammar.specs.Framing.{with_items}
use Rattle.gfx_grammar.specs.Splitting.{Blocks, blocks_of}
use Rattle.gfx_player.specs.declared.fault.PlayFault.{PlayFault}
use Rattle.gfx_player.specs.declared.fault.PlayFault.TheVariants.{Bad, NoSuchFrame, ReadFault, SinkFault, WantMemory}
use Rattle.gfx_player.specs.Fed.{IsUnfinished, IsGiven, IsReadThrough, history_of}
use Rattle.gfx_player.specs.Meanings.{end_of, frames_in, history_in, valid_in}

-- ---- by blocks

-- the blocks of a file begin with these
pub record BeginsWith (fed : List Whole) (bytes : List ℕ) : Type 0 where
  pub later : Blocks
  pub is : blocks_of bytes ≡ with_items fed later

-- the blocks of a file before its first bad one are just these, and it ends so
pub record EndsBehind (fed : List Whole) (end : End) (bytes : List ℕ) : Type 0 where
  pub blocks : valid_in bytes ≡ fed
  pub history : history_in bytes ≡ history_of fed
  pub ends : end_of bytes ≡ end

-- why no block is taken behind these: the next is the first bad one, or a read failed before it was whole
abbrev pub Stops : List Whole → PlayFault → List ℕ → List ℕ → Type 0
Stops fed (Bad fault block offset) bytes left = EndsBehind fed (bad fault block offset) bytes
Stops fed (NoSuchFrame first last) bytes left = ⊥
Stops fed ReadFault bytes left = IsGiven fed bytes left
Stops fed SinkFault bytes left = ⊥
Stops fed WantMemory bytes left = ⊤

-- these are the first blocks of a file, and no further one is taken for this reason
pub record StopsBehind (fed : List Whole) (why : PlayFault) (bytes left : List ℕ) : Type 0 where
  pub begins : BeginsWith fed bytes
  pub stops : Stops fed why bytes left

-- ---- by frames

-- the frames of a file begin with these
pub record ShowsFirst (shown : List Frame) (bytes : List ℕ) : Type 0 where
  pub later : List Frame
  pub is : frames_in bytes ≡ shown ++ later

-- a file shows just these frames, and ends so
pub record ShowsJust (shown : List Frame) (end : End) (bytes : List ℕ) : Type 0 where
  pub shows : frames_in bytes ≡ shown
  pub ends : end_of bytes ≡ end

-- A read failed. The bytes that were given show just these frames, none of their blocks is bad, and the next isn't whole.
pub record IsCutBehind (shown : List Frame) (bytes left : List ℕ) : Type 0 where
  pub given : List ℕ
  pub parts : bytes ≡ given ++ left
  pub cut : IsUnfinished (blocks_of given).items given
  pub lawful : end_of given ≡ (blocks_of given).end
  pub shows : frames_in given ≡ shown
  pub minor : (shown ≡ []) ⊎ (minor_of given ≡ minor_of bytes)

-- why no further frame is shown
abbrev pub StopsShowing : List Frame → PlayFault → List ℕ → List ℕ → Type 0
StopsShowing shown (Bad fault block offset) bytes left = ShowsJust shown (bad fault block offset) bytes
StopsShowing shown (NoSuchFrame first last) bytes left = ⊥
StopsShowing shown ReadFault bytes left = IsCutBehind shown bytes left
StopsShowing shown SinkFault bytes left = ⊥
StopsShowing shown WantMemory bytes left = ⊤

-- these are the first frames of a file, and no further one is shown for this reason
pub record IsStopped (shown : List Frame) (why : PlayFault) (bytes left : List ℕ) : Type 0 where
  pub first : ShowsFirst shown bytes
  pub stops : StopsShowing shown why bytes left

-- what is left follows the block that shows this frame behind the others
pub record IsBehindFrame (shown : List Frame) (f : Frame) (bytes left : List ℕ) : Type 0 where
  pub fed : List Whole
  pub block : Whole
  pub through : IsReadThrough fed block bytes left
  pub before : frames (history_of fed) ≡ shown
  pub there : frames (history_of (fed ++ block ∷ [])) ≡ shown ++ f ∷ []
