use Rattle.std.proofs.Common.{◌≤◌, ◌-◌, ◌++◌, ℕ, List, take}
use Rattle.sha2.specs.Hashers.{Holds256}
use Rattle.gfx_frames.specs.Texts.{bytes_of}
use Rattle.gfx_digest.proofs.images.hash_place.Given as goal

abbrev pub invariant-pieces : goal.invariant-pieces
invariant-pieces g l = record {
  within : l.at ≤ l.size;
  holds : (before : List ℕ) → Holds256 l.fn.hasher before → Holds256 l.hasher (before ++ take l.at (bytes_of (g.B.StateBytes.bytes l.bytes) l.place));
}

abbrev pub decreases-pieces : goal.decreases-pieces
decreases-pieces g l = l.size - l.at
