use Rattle.std.proofs.Common.{◌∙◌, sym, ap, length, arith}
use Rattle.gfx_pages.specs.Page.{page_bytes}
use Rattle.gfx_pages.proofs.Paged.{page_below, page_end}
use Rattle.gfx_pages.proofs.Fills.{is_page, used_fill, zero_fill}
use Rattle.gfx_pages.proofs.bytes.Bytes.page_fill.Goals as goal

pub returns-in_err-used : goal.returns-in_err-used
returns-in_err-used c =
    let total = c.self.invariant.total in
    let same = ap length c.self.view_is in
    let below = page_below 65536 _ _ c.args.index c.self.invariant (omega arith) in
    let page = is_page 65536 _ _ c.args.index _ c.args.self.now c.self.invariant c.self.view_is below c.index.ensures in
    c.from_residual.ensures ∙ sym (zero_fill 65536 _ _ c.args.index _ page c.in_err-used.ensures)

pub overflow_add-at : goal.overflow_add-at
overflow_add-at c =
    let some = c.in_ok-used.ensures.some in
    let within = c.in_ok-used.ensures.within in
    let total = c.self.invariant.total in
    let same = ap length c.self.view_is in
    let size = ap (λ x. length (page_bytes x)) c.index.ensures in
    let below = page_below 65536 _ _ c.args.index c.self.invariant (omega arith) in
    let end = page_end 65536 _ _ c.args.index c.index.result.now c.self.invariant below in
    omega arith

pub returns : goal.returns
returns c =
    let total = c.self.invariant.total in
    let same = ap length c.self.view_is in
    let below = page_below 65536 _ _ c.args.index c.self.invariant (omega arith) in
    let page = is_page 65536 _ _ c.args.index _ c.args.self.now c.self.invariant c.self.view_is below c.index.ensures in
    sym (used_fill 65536 _ _ c.args.index _ _ _ page c.in_ok-used.ensures)
