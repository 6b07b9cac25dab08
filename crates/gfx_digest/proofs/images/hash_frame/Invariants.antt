use Rattle.std.proofs.Common.{◌++◌, ℕ, List, take}
use Rattle.sha2.specs.Hashers.{Holds256}
use Rattle.gfx_digest.proofs.Pieces.{places_bytes}
use Rattle.gfx_digest.proofs.images.hash_frame.Given as goal

abbrev pub invariant-pictures : goal.invariant-pictures
invariant-pictures g l = record {
  holds : (before : List ℕ) → Holds256 l.fn.hasher before → Holds256 l.hasher (before ++ places_bytes (g.B.StateBytes.bytes l.bytes) (take l.index l.pictures));
}
