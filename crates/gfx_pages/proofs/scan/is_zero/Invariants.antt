use Rattle.std.proofs.Common.{◌≡◌, ℕ, ◌<◌, get_or}
use Rattle.gfx_pages.proofs.scan.is_zero.Given as goal

abbrev pub invariant-loop-byte : goal.invariant-loop-byte
invariant-loop-byte l = (l.seen ≡ 0 → (k : ℕ) → k < l.byte-index → get_or l.bytes k 0 ≡ 0) × (((k : ℕ) → k < l.byte-index → get_or l.bytes k 0 ≡ 0) → l.seen ≡ 0)
