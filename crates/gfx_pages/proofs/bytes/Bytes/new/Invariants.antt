use Rattle.std.proofs.Common.{◌≡◌, replicate}
use Rattle.gfx_pages.specs.declared.page.Page.TheVariants.{Absent}
use Rattle.gfx_pages.proofs.bytes.Bytes.new.Given as goal

abbrev pub invariant-loop-i : goal.invariant-loop-i
invariant-loop-i l = l.pages.items ≡ replicate l._i (Absent 65536)
