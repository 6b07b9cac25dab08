-- The law of lean files: the lean file of a range of frames shows just these frames.
use Rattle.std.specs.Prelude.{◌≡◌, ℕ, true, List, [], ◌++◌}
use Rattle.std.specs.List.{AllByRecursion}
use Rattle.gfx_types.specs.declared.frame.Frame.{Frame}
use Rattle.gfx_model.specs.Events.{Event}
use Rattle.gfx_model.specs.Blocks.End.{clean}
use Rattle.gfx_model.specs.History.{onto, view, is_valid}
use Rattle.gfx_model.specs.Frames.{frames}
use Rattle.gfx_model.specs.Meaning.{Means}
use Rattle.gfx_feature_model.specs.Lean.{Keep, KeepsNeeded, IsLean, kept_section}
use Rattle.gfx_laws.specs.Laws.{IsNoMarker, frames_after}
use Rattle.gfx_section_law.specs.Law.{IsAtBoundary}
use Rattle.gfx_grammar.specs.Reads.{AreBytes}
use Rattle.gfx_trim_law.specs.Law.{HasRange, frames_from}

-- the kept section as a history, the newest event first
abbrev pub kept_history : Keep → List Event → List Event
kept_history keep h = onto (kept_section keep h (view h).next_frame) []

-- the kept section with the range that follows it
pub record RunsKept (keep : Keep) (h range : List Event) : Type 0 where
  pub valid : is_valid (onto range (kept_history keep h)) ≡ true
  pub same : frames (onto range (kept_history keep h)) ≡ frames_after h range

-- A range of events that goes on after a history goes on after its section with just what the range needs, and shows the same frames.
abbrev pub LeanRuns : Type 0
LeanRuns = (h range : List Event) (keep : Keep) → IsAtBoundary h → KeepsNeeded h range keep → AllByRecursion IsNoMarker range →
    is_valid (onto range h) ≡ true → RunsKept keep h range

-- The lean file of a range inside a file ends cleanly, and its frames are those of the range.
abbrev pub LeanKeepsFrames : Type 0
LeanKeepsFrames = (first last : ℕ) (bytes taken : List ℕ) (shown : List Frame) →
    HasRange first last bytes shown → IsLean first last bytes taken → Means taken (frames_from first shown) clean

-- What follows a range does not matter for its lean file.
abbrev pub RestLeavesLean : Type 0
RestLeavesLean = (first last : ℕ) (bytes rest taken : List ℕ) (shown : List Frame) →
    HasRange first last bytes shown → AreBytes rest → IsLean first last bytes taken → IsLean first last (bytes ++ rest) taken

-- A range has one lean file.
abbrev pub LeanIsOne : Type 0
LeanIsOne = (first last : ℕ) (bytes one other : List ℕ) → AreBytes bytes → IsLean first last bytes one → IsLean first last bytes other → one ≡ other
