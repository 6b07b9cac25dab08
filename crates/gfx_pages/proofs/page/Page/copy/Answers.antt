use Rattle.std.proofs.Common.{◌≡◌, ◌+◌, ◌≤◌, ◌∙◌, ap, sym, arith, length, replicate, drop, take, ℕ}
use Rattle.std.proofs.lemmas.List.{length-replicate, take-replicate}
use Rattle.std.proofs.lemmas.Result.{on_ok_weaker}
use Rattle.gfx_pages.specs.Page.{page_bytes}
use Rattle.gfx_pages.proofs.Lists.{paste_same, zeros_part}
use Rattle.gfx_pages.proofs.page.Page.copy.Goals as goal

pub returns-in-Absent-clause-ok : goal.returns-in-Absent-clause-ok
returns-in-Absent-clause-ok c =
    let n = c.in-Absent.field-0 in
    let zeros : page_bytes c.args.source.now ≡ replicate n 0 = ap page_bytes c.in-Absent.is in
    let size = ap length zeros ∙ length-replicate {A = ℕ} n 0 in
    let there : c.args.from + c.args.count ≤ n = omega arith in
    let front : take c.args.count (replicate c.args.count 0) ≡ take c.args.count (drop c.args.from (page_bytes c.args.source.now)) =
    take-replicate c.args.count c.args.count 0 (omega arith) ∙ sym (ap (λ x. take c.args.count (drop c.args.from x)) zeros ∙ zeros_part n c.args.from c.args.count there) in
    on_ok_weaker c.clear.result (λ ok. ok ∙ paste_same _ c.args.offset _ _ c.args.count front) c.clear.ensures.ok
