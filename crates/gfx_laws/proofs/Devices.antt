-- The device of an object is live.
use Rattle.std.proofs.Common.{◌≡◌, ℕ, suc, true, refl, ◌∙◌, ap, List, Option, Some, None, cond, ◌==◌}
use Rattle.std.specs.Option.{option_map_or}
use Rattle.gfx_types.specs.declared.names.Kind.TheVariants as kind
use Rattle.gfx_model.specs.Events.{Event}
use Rattle.gfx_model.specs.Steps.{Object, Detail, kind_of, kind_number}
use Rattle.gfx_model.specs.Steps.Detail.{an_instance, a_surface, a_device, a_command_buffer, a_pool, a_swapchain, an_image}
use Rattle.gfx_model.specs.Questions.{passes}
use Rattle.gfx_model.specs.Views.{View, is_live, parent_of, device_of, climb}
use Rattle.gfx_model.specs.History.{view, is_valid}
use Rattle.gfx_laws.specs.Lawful.{base, LawfulObjects, HasParent, IsKind}
use Rattle.gfx_laws.specs.Laws.{is_of_device}
use Rattle.gfx_laws.proofs.Cases.{by_test}
use Rattle.gfx_laws.proofs.ValidHistories.{lawful_history}

climb_at : (v : View) (n x : ℕ) → is_live v kind.Device x ≡ true → climb (suc n) v x ≡ x
climb_at v n x e = ap (λ t. cond t x (climb n v (parent_of v x))) e

-- a live device is reached from what is made of it
reach_one : (v : View) (n x p : ℕ) → parent_of v x ≡ p → is_live v kind.Device p ≡ true → is_live v kind.Device (climb (suc (suc n)) v x) ≡ true
reach_one v n x p is there = by_test _ (is_live v kind.Device x)
    (λ e. ap (is_live v kind.Device) (climb_at v (suc n) x e) ∙ e)
    (λ e. ap (is_live v kind.Device) (ap (λ t. cond t x (climb (suc n) v (parent_of v x))) e ∙ ap (climb (suc n) v) is ∙ climb_at v n p there) ∙ there)

-- and from what is made of that
reach_two : (v : View) (n x p d : ℕ) → parent_of v x ≡ p → parent_of v p ≡ d → is_live v kind.Device d ≡ true → is_live v kind.Device (climb (suc (suc (suc n))) v x) ≡ true
reach_two v n x p d is up there = by_test _ (is_live v kind.Device x)
    (λ e. ap (is_live v kind.Device) (climb_at v (suc (suc n)) x e) ∙ e)
    (λ e. ap (is_live v kind.Device) (ap (λ t. cond t x (climb (suc (suc n)) v (parent_of v x))) e ∙ ap (climb (suc (suc n)) v) is) ∙ reach_one v n p d up there)

-- the parent of a pool or a swapchain is a device
pool_parent : (d : Detail) (p : ℕ) (l : Option Object) → (kind_number (kind_of d) == 8) ≡ true → HasParent d p l → IsKind kind.Device l
pool_parent (a_pool flags) p l k h = h
pool_parent _ p l k h = absurd (cc)

swapchain_parent : (d : Detail) (p : ℕ) (l : Option Object) → (kind_number (kind_of d) == 12) ≡ true → HasParent d p l → IsKind kind.Device l
swapchain_parent (a_swapchain surface images format width height usage) p l k h = h
swapchain_parent _ p l k h = absurd (cc)

parent_at : (v : View) (x p : ℕ) (d : Detail) → v.live x ≡ Some (record { parent = p; detail = d }) → parent_of v x ≡ p
parent_at v x p d e = ap (λ l. option_map_or (λ o. o.parent) l 0) e

pub device_live : (v : View) → LawfulObjects v → (x p : ℕ) (d : Detail) → v.live x ≡ Some (record { parent = p; detail = d }) → is_of_device d ≡ true → is_live v kind.Device (device_of v x) ≡ true
device_live v h x p d e of = by d e of (h.parent x (record { parent = p; detail = d }) e)
  where
    two : (n : ℕ) → ((d : Detail) (p : ℕ) (l : Option Object) → (kind_number (kind_of d) == n) ≡ true → HasParent d p l → IsKind kind.Device l) →
        (c : Detail) → v.live x ≡ Some (record { parent = p; detail = c }) → passes (λ o. kind_number (kind_of o.detail) == n) (v.live p) ≡ true → is_live v kind.Device (device_of v x) ≡ true
    two n up c e there = at (v.live p) refl there
      where
        at : (l : Option Object) → v.live p ≡ l → passes (λ o. kind_number (kind_of o.detail) == n) l ≡ true → is_live v kind.Device (device_of v x) ≡ true
        at None is k = absurd (cc)
        at (Some q) is k = reach_two v 0 x p q.parent (parent_at v x p c e) (ap (λ l. option_map_or (λ o. o.parent) l 0) is) (up q.detail q.parent (v.live q.parent) k (h.parent p q is))

    one : (c : Detail) → v.live x ≡ Some (record { parent = p; detail = c }) → IsKind kind.Device (v.live p) → is_live v kind.Device (device_of v x) ≡ true
    one c e there = reach_one v 1 x p (parent_at v x p c e) there

    by : (d : Detail) → v.live x ≡ Some (record { parent = p; detail = d }) → is_of_device d ≡ true → HasParent d p (v.live p) → is_live v kind.Device (device_of v x) ≡ true
    by (an_instance api) e of parent = absurd (cc)
    by a_surface e of parent = absurd (cc)
    by a_device e of parent =
        let here : is_live v kind.Device x ≡ true = ap (passes (λ o. kind_number (kind_of o.detail) == 3)) e in
        ap (is_live v kind.Device) (climb_at v 2 x here) ∙ here
    by a_command_buffer e of parent = two 8 pool_parent a_command_buffer e parent
    by (an_image format width height usage (Some index)) e of parent = two 12 swapchain_parent (an_image format width height usage (Some index)) e parent
    by (an_image format width height usage None) e of parent = one (an_image format width height usage None) e parent
    by d e of parent = one d e parent

pub devices_live : (h : List Event) → is_valid h ≡ true → (x : ℕ) (o : Object) → (view h).live x ≡ Some o → is_of_device o.detail ≡ true → is_live (view h) kind.Device (device_of (view h) x) ≡ true
devices_live h valid x o e of = device_live (base (view h)) (lawful_history h valid).objects x o.parent o.detail e of
