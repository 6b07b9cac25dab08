use Rattle.std.proofs.Common.{◌∙◌, ◌/◌, sym, ap, length, arith, get_or, lit<}
use Rattle.gfx_pages.proofs.Fills.{found_first, found_here, found_later, found_nowhere, passed_early, passed_none, find_fills, page_count}
use Rattle.gfx_pages.proofs.bytes.Bytes.next_fill.Goals as goal
use Rattle.gfx_pages.proofs.bytes.Bytes.next_fill.Goals.{in-Some+else-after-fill, in_default}

pub loop-index-init : goal.loop-index-init
loop-index-init c = found_first 65536 (λ i. get_or c.args.self.now i 0) (length c.args.self.now) c.args.after (c.args.after / 65536) (omega arith) (c.args.after / 65536) (omega arith)

pub returns-then-after-fill : goal.returns-then-after-fill
returns-then-after-fill c =
    let total = c.self.invariant.total in
    let same = ap length c.self.view_is in
    let count = page_count 65536 c.self.inside.pages.items _ (lit< tt) c.self.invariant in
    sym (find_fills c.args.self.now c.args.after
    ∙ c.loop-index.invariant
    ∙ found_here 65536 (λ i. get_or c.args.self.now i 0) (length c.args.self.now) c.args.after c.loop-index.index c.in-Some.fill (omega arith) (sym c.in-Some.ensures) c.if-after-fill.true)

pub loop-index-preserved : goal.loop-index-preserved
loop-index-preserved c =
    c.loop-index.invariant
    ∙ found_later 65536 (λ i. get_or c.args.self.now i 0) (length c.args.self.now) c.args.after c.loop-index.index
    (elim c.match-page_fill.branch [
      | in-Some+else-after-fill w ↦ passed_early c.args.after _ w.in-Some.fill (sym c.page_fill.ensures ∙ w.in-Some.is) w.if-after-fill.false
      | in_default w ↦ passed_none c.args.after _ (sym w.in_default.ensures)
    ])

pub returns : goal.returns
returns c =
    let total = c.self.invariant.total in
    let same = ap length c.self.view_is in
    let count = page_count 65536 c.self.inside.pages.items _ (lit< tt) c.self.invariant in
    sym (find_fills c.args.self.now c.args.after
    ∙ c.loop-index.invariant
    ∙ found_nowhere 65536 (λ i. get_or c.args.self.now i 0) (length c.args.self.now) c.args.after c.loop-index.index (omega arith))
