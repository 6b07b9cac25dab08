-- The law of trimming: the file of a range of frames shows just these frames.
use Rattle.std.specs.Prelude.{◌≡◌, ℕ, ◌≤◌, nat_le, true, List, [], ◌++◌, filter}
use Rattle.gfx_types.specs.declared.frame.Frame.{Frame}
use Rattle.gfx_model.specs.Blocks.{Whole}
use Rattle.gfx_model.specs.Blocks.End.{clean}
use Rattle.gfx_model.specs.History.{is_valid}
use Rattle.gfx_model.specs.Frames.{frames}
use Rattle.gfx_model.specs.Meaning.{Means, MeansUpTo, RangeEnd, events_onto, has_frame}
use Rattle.gfx_model.specs.Trimmed.{has_boundary, IsTrimmed}
use Rattle.gfx_grammar.specs.Reads.{AreBytes}

-- the frames with numbers from `first` on
abbrev pub frames_from : ℕ → List Frame → List Frame
frames_from first = filter (λ f. nat_le first f.number)

-- the file shows these frames up to `last`, frame `last` itself and frame `first` among them
pub record HasRange (first last : ℕ) (bytes : List ℕ) (shown : List Frame) : Type 0 where
  pub bytes_fit : AreBytes bytes
  pub ordered : first ≤ last
  pub means : MeansUpTo last bytes shown RangeEnd.whole
  pub first_there : has_frame first shown ≡ true

-- Trimming keeps the frames: the trimmed file of a range inside a file ends cleanly, and its frames are those of the range.
abbrev pub TrimmingKeepsFrames : Type 0
TrimmingKeepsFrames = (first last : ℕ) (bytes taken : List ℕ) (shown : List Frame) →
    HasRange first last bytes shown → IsTrimmed first last bytes taken → Means taken (frames_from first shown) clean

-- What follows frame `last` does not matter for the frames up to it, whatever bytes it is.
abbrev pub RestLeavesFrames : Type 0
RestLeavesFrames = (last : ℕ) (bytes rest : List ℕ) (shown : List Frame) →
    AreBytes bytes → AreBytes rest → MeansUpTo last bytes shown RangeEnd.whole → MeansUpTo last (bytes ++ rest) shown RangeEnd.whole

-- Nor does it for the trimmed file of a range up to it.
abbrev pub RestLeavesTrimmed : Type 0
RestLeavesTrimmed = (first last : ℕ) (bytes rest taken : List ℕ) (shown : List Frame) →
    HasRange first last bytes shown → AreBytes rest → IsTrimmed first last bytes taken → IsTrimmed first last (bytes ++ rest) taken

-- Each frame of a range inside a file is shown, none is missing.
abbrev pub EachIsShown : Type 0
EachIsShown = (first last : ℕ) (bytes : List ℕ) (shown : List Frame) → HasRange first last bytes shown →
    (n : ℕ) → first ≤ n → n ≤ last → has_frame n (frames_from first shown) ≡ true

-- A frame that begins in blocks without a fault is shown by them, where they show it or a later one.
abbrev pub BegunIsShown : Type 0
BegunIsShown = (first last : ℕ) (blocks : List Whole) → is_valid (events_onto blocks []) ≡ true → has_boundary first blocks ≡ true → first ≤ last →
    has_frame last (frames (events_onto blocks [])) ≡ true → has_frame first (frames (events_onto blocks [])) ≡ true
