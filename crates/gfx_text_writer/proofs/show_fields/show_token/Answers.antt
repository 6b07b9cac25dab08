use Rattle.std.proofs.Common.{◌≡◌, ℕ, List, ◌++◌, ◌∷◌, [], ap, ◌∙◌, append_assoc}
use Rattle.gfx_text_writer.proofs.Grown.{err_stays}
use Rattle.gfx_text_writer.proofs.show_fields.show_token.Goals as goal

pub returns-clause-err : goal.returns-clause-err
returns-clause-err g c =
    let name = c.as_bytes.result.now in
    let grown : c.push-2.new.self.items ≡ c.args.out.now.items ++ (32 ∷ (name ++ 61 ∷ [])) =
    c.in_ok-push-2.ensures.items
    ∙ ap (λ (z : List ℕ). z ++ 61 ∷ []) (c.in_ok-extend_from_slice.ensures.items ∙ ap (λ (z : List ℕ). z ++ name) c.in_ok-push.ensures.items)
    ∙ simp append_assoc in
    err_stays c.show.result c.args.out.now.items c.push-2.new.self.items (32 ∷ (name ++ 61 ∷ [])) c.show.new.out.items grown c.show.ensures.err
