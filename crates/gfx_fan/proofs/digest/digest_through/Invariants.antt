use Rattle.std.proofs.Common.{◌≤◌, ◌-◌, take}
use Rattle.sha2.specs.Hashers.{Holds256}
use Rattle.gfx_fan.proofs.digest.digest_through.Given as goal

abbrev pub invariant-pieces : goal.invariant-pieces
invariant-pieces l = record {
  within : l.at ≤ l.size;
  holds : Holds256 l.hasher (take l.at l.bytes);
}

abbrev pub decreases-pieces : goal.decreases-pieces
decreases-pieces l = l.size - l.at
