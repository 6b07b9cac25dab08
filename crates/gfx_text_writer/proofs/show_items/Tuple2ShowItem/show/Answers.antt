use Rattle.std.proofs.Common.{◌≡◌, ℕ, List, ◌++◌, ◌∷◌, [], ap, ◌∙◌, append_assoc}
use Rattle.gfx_text_writer.proofs.Grown.{err_stays}
use Rattle.gfx_text_writer.proofs.show_items.Tuple2ShowItem.show.Goals as goal

pub returns-clause-err : goal.returns-clause-err
returns-clause-err g c =
    let first = g.A.ShowItem.text (g.W.ShowId.style c.args.ids.now).ids.show c.args.self.now.0 in
    let grown : c.push.new.self.items ≡ c.args.out.now.items ++ (first ++ 44 ∷ []) =
    c.in_ok-push.ensures.items ∙ ap (λ (z : List ℕ). z ++ 44 ∷ []) c.in_ok-show.ensures.ok ∙ append_assoc c.args.out.now.items first (44 ∷ []) in
    err_stays c.show-2.result c.args.out.now.items c.push.new.self.items (first ++ 44 ∷ []) c.show-2.new.out.items grown c.show-2.ensures.err
