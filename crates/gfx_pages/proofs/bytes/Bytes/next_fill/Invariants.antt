use Rattle.std.proofs.Common.{◌≡◌, length, get_or}
use Rattle.gfx_pages.proofs.Fills.{found_from}
use Rattle.gfx_pages.proofs.bytes.Bytes.next_fill.Given as goal

abbrev pub invariant-loop-index : goal.invariant-loop-index
invariant-loop-index l =
    found_from 65536 (λ i. get_or l.self i 0) (length l.self) l.after 0 ≡ found_from 65536 (λ i. get_or l.self i 0) (length l.self) l.after l.index
