use Rattle.std.proofs.Common.{◌≡◌, ℕ, List, ◌++◌, ◌∷◌, sym, ap, ◌∙◌, append_assoc}
use Rattle.std.specs.List.{join_with_byte}
use Rattle.std.specs.Prelude.{map, flat_map}
use Rattle.std.proofs.lemmas.Result.{on_ok_weaker}
use Rattle.gfx_text_writer.proofs.Grown.{join_first}
use Rattle.gfx_text_writer.proofs.show_items.show_joined.Goals as goal

pub returns-in_ok-show-in-Some-clause-ok : goal.returns-in_ok-show-in-Some-clause-ok
returns-in_ok-show-in-Some-clause-ok g c =
    let text = g.T.ShowItem.text (g.W.ShowId.style c.args.ids.now).ids.show in
    let first = c.in-Some.first.now in
    let others = c.in-Some.others.now in
    let behind = flat_map (λ y. 44 ∷ text y) others in
    let before = c.args.out.now.items in
    let all : (before ++ text first) ++ behind ≡ before ++ join_with_byte 44 (map text c.args.items.now) =
    append_assoc before (text first) behind ∙ ap (λ (z : List ℕ). before ++ z) (sym (join_first text first others)
    ∙ ap (λ xs. join_with_byte 44 (map text xs)) (sym c.in-Some.ensures.cases.0)) in
    on_ok_weaker c.show_behind.result (λ (h : c.show_behind.new.out.items ≡ c.show.new.out.items ++ behind).
    h ∙ ap (λ (z : List ℕ). z ++ behind) c.in_ok-show-in-Some.ensures.ok ∙ all) c.show_behind.ensures.ok
