-- Layouts that the command buffers of a call set.
use Rattle.std.specs.Prelude.{◌≡◌, ℕ, true, List, if◌then◌else◌, unwrap_or}
use Rattle.std.specs.Ordering.{nat_cmp}
use Rattle.std.specs.FinMap as map
use Rattle.std.specs.FinMap.{FinMap}
use Rattle.gfx_table.specs.Dense.{is_listed}
use Rattle.gfx_commands.specs.declared.laid.Laid.{Laid}
use Rattle.gfx_commands.specs.declared.uses.Use.{Use}
use Rattle.gfx_commands.specs.Uses.{use_of}

-- each image has the layout that was set, or else the one that it had before the call
abbrev pub laid_by : FinMap nat_cmp ℕ → (ℕ → ℕ) → ℕ → ℕ
laid_by set layout x = unwrap_or (map.get set x) (layout x)

-- as long as all layouts are there that were set, they tell those that images have now
abbrev pub IsLaid : Laid → (layout now : ℕ → ℕ) → Type 0
IsLaid laid layout now = laid.is_whole ≡ true → now ≡ laid_by laid.table.map layout

-- the layouts after a command buffer with these uses
abbrev pub left_after : FinMap nat_cmp Use → (ℕ → ℕ) → ℕ → ℕ
left_after uses layout x = unwrap_or (use_of uses x).left (layout x)

-- the layouts where those of these images were set
abbrev pub left_by : FinMap nat_cmp Use → (ℕ → ℕ) → List ℕ → ℕ → ℕ
left_by uses layout ids x = if is_listed x ids then left_after uses layout x else layout x
