use Rattle.std.proofs.Common.{◌≤◌, List, ℕ, length, subst, sym, ap, ◌∙◌}
use Rattle.std.proofs.lemmas.List.{take_all}
use Rattle.std.specs.Prelude.{filter}
use Rattle.gfx_model.specs.Views.{is_live}
use Rattle.gfx_objects.specs.Objects.{answers}
use Rattle.gfx_state.proofs.Listing.{owned_listed, owned_few}
use Rattle.gfx_state.proofs.ids.owned_ids.Goals as goal

pub returns-clause-ids : goal.returns-clause-ids
returns-clause-ids c =
    let all = c.ids.invariant ∙ ap (filter (is_live (answers c.args.objects.now) c.args.kind)) (take_all c.ids.id-index c.owned-id-items.result.now c.ids-test.false) in
    owned_listed c.args.objects.now c.args.kind c.args.owner c.owned-id-items.result.now c.ids.ids.items _ c.owned-id-items.ensures.once c.owned-id-items.ensures.all all
    c.sort_unstable.ensures.permutation c.sort_unstable.ensures.sorted

pub returns-clause-few : goal.returns-clause-few
returns-clause-few c =
    subst (λ (l : List ℕ). length l ≤ 65536) (sym (returns-clause-ids c)) (owned_few c.args.objects.now c.live-live.ensures.sound c.args.kind c.args.owner)
