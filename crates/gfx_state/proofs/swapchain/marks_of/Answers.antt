use Rattle.std.proofs.Common.{◌++◌, ◌∷◌, [], ap, sym, ◌∙◌, arith}
use Rattle.std.proofs.lemmas.List.FromFn.{map-range_with_len_more}
use Rattle.gfx_model.specs.Section.{mark}
use Rattle.gfx_swap.specs.Acquired.{is_acquired}
use Rattle.gfx_state.specs.Images.{marks_in}
use Rattle.gfx_state.proofs.swapchain.marks_of.Goals as goal

pub images-preserved : goal.images-preserved
images-preserved c =
    let acquired = is_acquired c.args.swaps.now c.args.swapchain in
    c.in_ok-push.ensures.items
    ∙ ap (λ l. l ++ c.mark.result ∷ []) c.images.invariant
    ∙ ap (λ n. marks_in acquired c.images.index ++ n ∷ []) (c.mark.ensures ∙ ap mark c.acquired.ensures)
    ∙ sym (map-range_with_len_more (λ k. mark (acquired k)) 0 c.images.index c.images.index (omega arith))

pub returns : goal.returns
returns c = c.images.invariant ∙ ap (marks_in (is_acquired c.args.swaps.now c.args.swapchain)) (omega arith)
