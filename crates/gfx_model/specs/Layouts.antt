-- Layouts that the buffers of a call meet.
use Rattle.std.specs.Prelude.{ℕ, List, [], ◌++◌, flat_map, take, slice_get}
use Rattle.std.specs.Option.{option_map_or}
use Rattle.gfx_types.specs.declared.lists.Submit.{Submit}
use Rattle.gfx_model.specs.Questions.{Buffer}
use Rattle.gfx_model.specs.Checks.{Layouts, layouts_of, layouts_after}

-- what the commands of a buffer ask of layouts, in order
abbrev pub asked_in : (ℕ → Buffer) → ℕ → List Layouts
asked_in buffer cb = flat_map layouts_of (buffer cb).commands

-- the buffers of a submit
abbrev pub cbs_at : List Submit → ℕ → List ℕ
cbs_at submits submit = option_map_or (λ (s : Submit). s.cbs) (slice_get submits submit) []

-- the buffers that a call executes before a place of it
abbrev pub executed_before : List Submit → (submit at : ℕ) → List ℕ
executed_before submits submit at = flat_map (λ s. s.cbs) (take submit submits) ++ take at (cbs_at submits submit)

-- the layouts after these buffers
abbrev pub layouts_by : (ℕ → Buffer) → (ℕ → ℕ) → List ℕ → ℕ → ℕ
layouts_by buffer layout cbs = layouts_after layout (flat_map (asked_in buffer) cbs)
