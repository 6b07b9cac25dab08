use Rattle.std.proofs.Common.{◌≡◌, ℕ, List, ◌++◌}
use Rattle.gfx_text.proofs.Hex.{BytesGoOn}
use Rattle.gfx_listing.proofs.hex.append_bytes.Given as goal

-- the bytes that were read follow the old ones, and then those follow that are still read
abbrev pub invariant-pairs : goal.invariant-pairs
invariant-pairs l = (read : List ℕ) × (l.out.items ≡ l.fn.out.items ++ read) × BytesGoOn read l.i l.digits
