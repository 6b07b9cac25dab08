use Rattle.std.proofs.Common.{◌≡◌, ◌≤◌, ◌<◌, ℕ, None}
use Rattle.gfx_table.specs.Slotted.{slot_at, row_in}
use Rattle.gfx_table.proofs.slotted.slot_of.Given as goal

-- the row is in none of the slots so far
abbrev pub invariant-slots : goal.invariant-slots
invariant-slots g l = (i : ℕ) → l.first ≤ i → i < l.slot → row_in (slot_at l.slots i) l.id ≡ None
