-- Which command buffers name a resource.
use Rattle.std.specs.Prelude.{◌≡◌, ℕ, ◌≤◌, true, false, List}
use Rattle.std.specs.Ordering.{nat_cmp}
use Rattle.std.specs.FinMap.{FinMap}
use Rattle.gfx_table.specs.Slots.{Slots}
use Rattle.gfx_table.specs.Groups.{is_member, room_in}
use Rattle.gfx_model.specs.Questions.{Buffer}
use Rattle.gfx_model.specs.Checks.{is_among}
use Rattle.gfx_commands.specs.Recording.{names}

-- there is room for the command buffer among the users of each of these resources
abbrev pub HasRoom : FinMap nat_cmp (Slots (Unit {0})) → ℕ → List ℕ → Type 0
HasRoom users cb resources = (x : ℕ) → is_among x resources ≡ true → is_member users x cb ≡ false → 1 ≤ room_in users x

-- the users of a resource are the command buffers with a command that names it
abbrev pub AreUsers : FinMap nat_cmp (Slots (Unit {0})) → (ℕ → Buffer) → Type 0
AreUsers users buffer = (resource cb : ℕ) → is_member users resource cb ≡ names resource (buffer cb)
