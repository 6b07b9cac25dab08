use Rattle.std.proofs.Common.{◌≤◌, ◌-◌, take}
use Rattle.sha2.specs.Hashers.{Holds256}
use Rattle.gfx_frames.specs.Texts.{bytes_of}
use Rattle.gfx_frames.proofs.digest.digest_of.Given as goal

abbrev pub invariant-pieces : goal.invariant-pieces
invariant-pieces g l = record {
  within : l.at ≤ l.size;
  holds : Holds256 l.hasher (take l.at (bytes_of (g.B.StateBytes.bytes l.bytes) l.place));
}

abbrev pub decreases-pieces : goal.decreases-pieces
decreases-pieces g l = l.size - l.at
