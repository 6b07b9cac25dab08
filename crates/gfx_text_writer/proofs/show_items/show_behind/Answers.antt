use Rattle.std.proofs.Common.{◌≡◌, ℕ, List, ◌++◌, ◌∷◌, [], take, ap, ◌∙◌, append_assoc}
use Rattle.std.specs.Prelude.{flat_map}
use Rattle.std.proofs.lemmas.Result.{err_from_is_err_and}
use Rattle.gfx_text_writer.proofs.Grown.{front_stays}
use Rattle.gfx_text_writer.proofs.show_items.show_behind.Goals as goal

pub returns-in_err-show-clause-err : goal.returns-in_err-show-clause-err
returns-in_err-show-clause-err g c =
    let p = err_from_is_err_and c.from_residual-in_err-show.result c.from_residual-in_err-show.ensures.1 in
    let before = flat_map (λ item. 44 ∷ g.T.ShowItem.text (g.W.ShowId.style c.args.ids.now).ids.show item) (take c.items.item-index c.args.items.now) in
    let grown : c.push.new.self.items ≡ c.args.out.now.items ++ (before ++ 44 ∷ []) =
    c.in_ok-push.ensures.items ∙ ap (λ (z : List ℕ). z ++ 44 ∷ []) c.items.invariant ∙ append_assoc c.args.out.now.items before (44 ∷ []) in
    rw p.1 (front_stays c.args.out.now.items c.push.new.self.items (before ++ 44 ∷ []) c.show.new.out.items grown c.in_err-show.ensures.err)
