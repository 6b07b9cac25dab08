use Rattle.std.proofs.Common.{◌≡◌, ◌≤◌, ◌==◌, ℕ, false}
use Rattle.std.specs.FinMap as map
use Rattle.gfx_table.specs.Groups.{room_in}
use Rattle.gfx_objects.specs.Objects.{was_used}
use Rattle.gfx_objects.proofs.Owned.{IsLeft}
use Rattle.gfx_objects.proofs.objects.Objects.remove.Given as goal

-- what is gone was owned, and the room of others stays
abbrev pub invariant-owned : goal.invariant-owned
invariant-owned l = record {
  rows : IsLeft l.id l.fn.self.rows l.self.rows;
  used : was_used l.self ≡ was_used l.fn.self;
  spare : l.self.spare ≡ l.fn.self.spare;
  rooms : (x : ℕ) → (l.id == x) ≡ false → room_in l.fn.self.owned x ≤ room_in l.self.owned x;
}

abbrev pub decreases-owned : goal.decreases-owned
decreases-owned l = map.len l.self.rows
