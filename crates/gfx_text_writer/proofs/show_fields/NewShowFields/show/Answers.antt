use Rattle.std.proofs.Common.{◌≡◌, ℕ, List, ◌∷◌, ◌++◌, sym, ap, ◌∙◌, append-nil}
use Rattle.std.proofs.lemmas.Result.{on_ok_weaker}
use Rattle.gfx_text_writer.proofs.Grown.{made_token, apart_token}
use Rattle.gfx_text_writer.proofs.show_fields.NewShowFields.show.Goals as goal

pub returns-then-apart-clause-ok : goal.returns-then-apart-clause-ok
returns-then-apart-clause-ok g c =
    let style = g.W.ShowId.style c.args.ids.now in
    let item = c.args.self.now.0.now in
    let before = c.args.out.now.items in
    let none = apart_token style c.args.names.now.now (g.T.ShowMade.made item) (g.T.ShowMade.is_new item) (sym c.apart.ensures ∙ c.if-apart.true) in
    sym (ap (λ (z : List ℕ). before ++ z) none ∙ append-nil before)

pub returns-clause-ok : goal.returns-clause-ok
returns-clause-ok g c =
    let style = g.W.ShowId.style c.args.ids.now in
    let item = c.args.self.now.0.now in
    let name = c.args.names.now.now in
    let text = g.T.ShowItem.text style.ids.show item in
    let before = c.args.out.now.items in
    let same = made_token style name text (g.T.ShowMade.made item) (g.T.ShowMade.is_new item) (sym c.apart.ensures ∙ c.if-apart.false) (g.met.T.ShowMade.same_text style.ids.show item) in
    on_ok_weaker c.show_token.result (λ (h : c.show_token.new.out.items ≡ before ++ (32 ∷ (name ++ (61 ∷ text)))).
    h ∙ ap (λ (z : List ℕ). before ++ z) (sym same)) c.show_token.ensures.ok
