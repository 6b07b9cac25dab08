use Rattle.std.proofs.Common.{◌≡◌, ℕ, length, None}
use Rattle.gfx_table.specs.Slotted.{slot_at}
use Rattle.gfx_table.proofs.slot.free_slots.Given as goal

-- there is one slot for each turn, and none has anything
abbrev pub invariant-slots : goal.invariant-slots
invariant-slots g l = record {
  len : length l.made.items ≡ l.counter;
  free : (i : ℕ) → slot_at l.made.items i ≡ None;
}
