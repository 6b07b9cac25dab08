use Rattle.std.proofs.Common.{◌≡◌, ℕ, List, ◌∷◌, ◌++◌, sym, ap, ◌∙◌}
use Rattle.std.proofs.lemmas.Result.{on_ok_weaker}
use Rattle.gfx_text_writer.proofs.Grown.{plain_token}
use Rattle.gfx_text_writer.proofs.show_fields.RefShowFields.show.Goals as goal

pub returns-clause-ok : goal.returns-clause-ok
returns-clause-ok g c =
    let style = g.W.ShowId.style c.args.ids.now in
    let item = c.args.self.now.now in
    let name = c.args.names.now.now in
    let text = g.T.ShowItem.text style.ids.show item in
    let before = c.args.out.now.items in
    let same = plain_token style name text (g.T.ShowValue.value item) (g.T.ShowValue.is_plain item) (g.met.T.ShowValue.same_text style.ids.show item) in
    on_ok_weaker c.show_token.result (λ (h : c.show_token.new.out.items ≡ before ++ (32 ∷ (name ++ (61 ∷ text)))).
    h ∙ ap (λ (z : List ℕ). before ++ z) (sym same)) c.show_token.ensures.ok
