use Rattle.std.proofs.Common.{◌≡◌, ◌+◌, ◌≤◌, ◌∙◌, ap, arith, length, replicate, ℕ}
use Rattle.std.proofs.lemmas.List.{length-replicate}
use Rattle.gfx_pages.specs.Page.{page_bytes}
use Rattle.gfx_pages.proofs.Lists.{zeros_pasted, zeros_part}
use Rattle.gfx_pages.proofs.page.Page.copy_within.Goals as goal

pub returns-in-Absent-clause-ok : goal.returns-in-Absent-clause-ok
returns-in-Absent-clause-ok c =
    let n = c.in-Absent.field-0 in
    let zeros : page_bytes c.args.self.now ≡ replicate n 0 = ap page_bytes c.in-Absent.is in
    let size = ap length zeros ∙ length-replicate {A = ℕ} n 0 in
    let room : c.args.offset + c.args.count ≤ n = omega arith in
    let there : c.args.from + c.args.count ≤ n = omega arith in
    rw zeros (zeros_pasted n c.args.offset c.args.count _ room (zeros_part n c.args.from c.args.count there))
