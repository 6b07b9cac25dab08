-- The command buffers of pools in a section.
use Rattle.std.specs.Prelude.{◌≡◌, ◌≤◌, ℕ, true, List, length}
use Rattle.std.specs.List.{AllByRecursion}
use Rattle.gfx_model.specs.Events.{Event}
use Rattle.gfx_model.specs.Spelling.{payload}
use Rattle.gfx_model.specs.Questions.{Buffer, is_kept}
use Rattle.gfx_model.specs.Section.{recording_events}
use Rattle.gfx_model.specs.Limits.{max_payload}

-- the block of each command of a recording or executable buffer fits in a file
abbrev pub CommandsFit : (ℕ → Buffer) → Type 0
CommandsFit buffer = (cb : ℕ) → is_kept (buffer cb).state ≡ true → AllByRecursion (λ c. length (payload 1 0 c) ≤ max_payload) (buffer cb).commands

-- a buffer recorded anew
abbrev pub recorded_anew : (ℕ → Buffer) → ℕ → List Event
recorded_anew buffer cb = recording_events cb (buffer cb).state (buffer cb)
