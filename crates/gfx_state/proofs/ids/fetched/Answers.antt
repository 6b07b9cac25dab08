use Rattle.std.proofs.Common.{◌≡◌, ◌+◌, ◌++◌, ◌-◌, List, ℕ, sym, ap, length, ◌∙◌, append_assoc, arith}
use Rattle.std.specs.Prelude.{filter}
use Rattle.std.proofs.lemmas.List.{append-nil}
use Rattle.gfx_types.specs.declared.names.Kind.TheVariants as kind
use Rattle.gfx_model.specs.Views.{images_in}
use Rattle.gfx_objects.specs.Objects.{answers}
use Rattle.gfx_state.specs.Ids.{owned_in}
use Rattle.gfx_state.proofs.Listing.{is_at, images_at, images_step, images_none, images_few, fetched_is}
use Rattle.gfx_state.proofs.ids.fetched.Goals as goal

pub indices-init : goal.indices-init
indices-init c =
    let v = answers c.args.objects.now in
    let xs = owned_in v kind.Image c.args.swapchain in
    let all : c.args.images ≡ c.args.images - 0 = omega arith in
    sym (fetched_is v c.args.swapchain) ∙ ap (images_at v xs 0) (sym c.requires ∙ all)
    ∙ ap (λ l. l ++ images_at v xs 0 (c.args.images - 0)) (sym c.new-ids.ensures.items)

pub indices-preserved : goal.indices-preserved
indices-preserved c =
    let v = answers c.args.objects.now in
    let xs = owned_in v kind.Image c.args.swapchain in
    let rest = images_at v xs (c.indices.index + 1) (c.args.images - (c.indices.index + 1)) in
    c.indices.invariant
    ∙ ap (λ l. c.indices.ids.items ++ l) (images_step v xs c.args.images c.indices.index c.indices-test.true)
    ∙ sym (append_assoc c.indices.ids.items (filter (is_at v c.indices.index) xs) rest)
    ∙ ap (λ l. l ++ rest) (sym (c.in_ok-push_at.ensures ∙ ap (λ l. c.indices.ids.items ++ filter (is_at v c.indices.index) l) (c.deref.ensures.value ∙ c.in_ok-owned.ensures.ids)))

pub returns-clause-ids : goal.returns-clause-ids
returns-clause-ids c =
    let v = answers c.args.objects.now in
    let xs = owned_in v kind.Image c.args.swapchain in
    sym (c.indices.invariant ∙ ap (λ l. c.indices.ids.items ++ l) (images_none v xs c.args.images c.indices.index c.indices-test.false) ∙ append-nil c.indices.ids.items)

pub returns-clause-few : goal.returns-clause-few
returns-clause-few c =
    let v = answers c.args.objects.now in
    let xs = owned_in v kind.Image c.args.swapchain in
    let is = c.indices.invariant ∙ ap (λ l. c.indices.ids.items ++ l) (images_none v xs c.args.images c.indices.index c.indices-test.false) ∙ append-nil c.indices.ids.items in
    let whole = ap (λ (l : List ℕ). length l) (fetched_is v c.args.swapchain ∙ is) in
    let few = images_few v xs 0 (images_in v c.args.swapchain) in
    let own = ap (λ (l : List ℕ). length l) c.in_ok-owned.ensures.ids in
    let limit = c.in_ok-owned.ensures.few in
    omega (arith, whole, few, own, limit)
