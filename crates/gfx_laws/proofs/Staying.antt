-- Resources and devices that stay the same through a step.
use Rattle.std.proofs.Common.{◌≡◌, ℕ, Bool, true, false, refl, sym, ◌∙◌, ap, Option, Some, None, cond, is_some, ◌==◌, ◌&&◌, ◌||◌, option_and_then, zero, suc, inl, inr}
use Rattle.std.specs.Option.{option_map_or}
use Rattle.std.proofs.lemmas.Bool.{eqb-true, or_parts, both_ways, ne_eqb, eq-eqb, false_from_ne_true}
use Rattle.gfx_types.specs.declared.names.Kind.TheVariants as kind
use Rattle.gfx_model.specs.Steps.{Object, Detail, kind_of, kind_number}
use Rattle.gfx_model.specs.Questions.{Binding, passes, rests_on, goes_with, after_end, image_size, is_owned}
use Rattle.gfx_model.specs.Views.{View, is_live, is_usable, device_of, climb, parent_of, detail_window, bound_window}
use Rattle.gfx_model.specs.Steps.Detail.{a_buffer, an_image, a_memory}
use Rattle.gfx_model.specs.Covers.{is_fetched}
use Rattle.gfx_model.specs.After.{is_alive, is_gone, is_lost}
use Rattle.gfx_laws.specs.Lawful.{LawfulObjects}
use Rattle.gfx_laws.proofs.Ready.{ReadyToCreate, ReadyToEnd, ReadyToBind}
use Rattle.gfx_laws.proofs.MoreObjects.{live_create, live_of_kind, is_other, with_object}
use Rattle.gfx_laws.proofs.FewerObjects.{live_end, without, parent_is, IsParent, parent_stays, ended_some}
use Rattle.gfx_laws.proofs.LawfulObjects.{with_binding}
use Rattle.gfx_laws.proofs.LawfulLayouts.{usable_live, no_window}
use Rattle.gfx_laws.proofs.LastingChecks.{SameAt}

-- ---- where resources stay

some_if : {X : Type 0} (t : Bool) (x : X) → is_some (cond t (Some x) None) ≡ t
some_if true x = refl
some_if false x = refl

-- a bound resource has a window where its memory is live
pub bound_live : (v : View) (n : ℕ) (b : Binding) → is_some (bound_window v n (Some b)) ≡ is_live v kind.Memory b.memory
bound_live v n b = some_if (is_live v kind.Memory b.memory) _

pub bound_stays : (v w : View) (n : ℕ) (b : Option Binding) →
    ((c : Binding) → b ≡ Some c → is_live v kind.Memory c.memory ≡ true → w.live c.memory ≡ v.live c.memory) →
    is_some (bound_window v n b) ≡ true → is_some (bound_window w n b) ≡ true
bound_stays v w n None kept u = absurd (cc)
bound_stays v w n (Some b) kept u =
    bound_live w n b
    ∙ ap (λ l. passes (λ o. kind_number (kind_of o.detail) == 5) l) (kept b refl (sym (bound_live v n b) ∙ u))
    ∙ sym (bound_live v n b) ∙ u

pub detail_stays : (v w : View) (x : ℕ) (d : Detail) → w.bound x ≡ v.bound x →
    ((c : Binding) → v.bound x ≡ Some c → is_live v kind.Memory c.memory ≡ true → w.live c.memory ≡ v.live c.memory) →
    is_some (detail_window v x d) ≡ true → is_some (detail_window w x d) ≡ true
detail_stays v w x (a_buffer size usage) same kept u =
    ap (λ b. is_some (bound_window w size b)) same ∙ bound_stays v w size (v.bound x) kept u
detail_stays v w x (an_image format width height usage None) same kept u =
    ap (λ b. is_some (bound_window w (image_size format width height) b)) same ∙ bound_stays v w (image_size format width height) (v.bound x) kept u
detail_stays v w x (an_image format width height usage (Some index)) same kept u = refl
detail_stays v w x _ same kept u = absurd (cc)

-- a resource stays usable where it and its memory stay
pub usable_along : (v w : View) (x : ℕ) → (is_usable v x ≡ true → w.live x ≡ v.live x) → w.bound x ≡ v.bound x →
    ((b : Binding) → v.bound x ≡ Some b → is_live v kind.Memory b.memory ≡ true → w.live b.memory ≡ v.live b.memory) → device_of w x ≡ device_of v x →
    is_usable v x ≡ true → SameAt v w x
usable_along v w x l same kept d u = record {
  live = l u;
  device = d;
  usable = λ u. let there = usable_live v x u in
      ap (λ l. is_some (option_and_then (λ o. detail_window w x o.detail) l)) (l u ∙ there.1) ∙ detail_stays v w x (there.0).detail same kept there.2;
}

-- devices are the same where objects and the parents of what is the same are
pub climb_same : (v w : View) → ((x : ℕ) → w.live x ≡ v.live x → w.live (parent_of v x) ≡ v.live (parent_of v x)) → (n x : ℕ) → w.live x ≡ v.live x → climb n w x ≡ climb n v x
climb_same v w up zero x e = refl
climb_same v w up (suc n) x e =
    ap (λ l. cond (passes (λ o. kind_number (kind_of o.detail) == 3) l) x (climb n w (option_map_or (λ o. o.parent) l 0))) e
    ∙ ap (λ y. cond (is_live v kind.Device x) x y) (climb_same v w up n (parent_of v x) (up x e))

pub device_same : (v w : View) → ((x : ℕ) → w.live x ≡ v.live x → w.live (parent_of v x) ≡ v.live (parent_of v x)) → (x : ℕ) → w.live x ≡ v.live x → device_of w x ≡ device_of v x
device_same v w up x e = climb_same v w up 3 x e

-- a parent is live, or there is none
parent_cases : (P : Type 0) (v : View) → LawfulObjects v → (x : ℕ) → (v.live (parent_of v x) ≡ None → parent_of v x ≡ 0 → P) →
    ((o q : Object) → v.live x ≡ Some o → o.parent ≡ parent_of v x → v.live (parent_of v x) ≡ Some q → P) → P
parent_cases P v h x none some = by (v.live x) refl
  where
    at : (o : Object) → v.live x ≡ Some o → o.parent ≡ parent_of v x → IsParent o.parent (v.live o.parent) → P
    at o there is (inl z) = none (ap v.live (sym is ∙ z) ∙ h.zero) (sym is ∙ z)
    at o there is (inr q) = some o q.0 there is (ap v.live (sym is) ∙ q.1)

    by : (l : Option Object) → v.live x ≡ l → P
    by None e = let z : parent_of v x ≡ 0 = ap (λ l. option_map_or (λ o. o.parent) l 0) e in none (ap v.live z ∙ h.zero) z
    by (Some o) e = at o e (sym (ap (λ l. option_map_or (λ o. o.parent) l 0) e)) (parent_is o.detail o.parent (v.live o.parent) (h.parent x o e))

-- one object more
pub device_create : (v : View) (i : ℕ) (r : Object) → LawfulObjects v → ReadyToCreate v i r.parent r.detail → (x : ℕ) → (o : Object) → v.live x ≡ Some o →
    device_of (with_object v i r) x ≡ device_of v x
device_create v i r h ready x o here =
    device_same v (with_object v i r)
    (λ y same. parent_cases ((with_object v i r).live (parent_of v y) ≡ v.live (parent_of v y)) v h y
    (λ none z. ap (λ t. cond t (Some r) (v.live (parent_of v y))) (ap (λ p. i == p) z ∙ ready.positive))
    (λ o q l is there. live_create v h i r ready.unused (parent_of v y) q there))
    x (live_create v h i r ready.unused x o here)

-- one object more
pub stays_create : (v : View) (i : ℕ) (r : Object) → LawfulObjects v → ReadyToCreate v i r.parent r.detail → (x : ℕ) → is_usable v x ≡ true → SameAt v (with_object v i r) x
stays_create v i r objects ready x u =
    let new = ready.unused in
    let here = usable_live v x u in
    usable_along v (with_object v i r) x
    (λ u. let there = usable_live v x u in live_create v objects i r new x there.0 there.1)
    (ap (λ t. cond t None (v.bound x)) (is_other v i x new (objects.used x here.0 here.1)))
    (λ b is memory. let m = live_of_kind v _ b.memory memory in live_create v objects i r new b.memory m.0 m.1)
    (device_create v i r objects ready x here.0 here.1)
    u

-- a binding more: of a resource that was not usable
pub stays_bind : (v : View) (r memory offset : ℕ) → ReadyToBind v r memory offset → (x : ℕ) → is_usable v x ≡ true →
    SameAt v (with_binding v r (record { memory = memory; offset = offset })) x
stays_bind v r memory offset ready x u =
    let there = usable_live v x u in
    let other : (r == x) ≡ false = false_from_ne_true _ (λ e.
    let is : v.live r ≡ Some there.0 = ap v.live (eqb-true r x e) ∙ there.1 in
    both_ways (is_some (detail_window v x (there.0).detail))
    (no_window v x (there.0).detail (ap (passes (λ o. is_fetched o.detail)) (sym is) ∙ ready.is_own) (ap v.bound (sym (eqb-true r x e)) ∙ ready.unbound))
    there.2) in
    usable_along v (with_binding v r (record { memory = memory; offset = offset })) x (λ u. refl)
    (ap (λ t. cond (t && is_alive v x) (Some (record { memory = memory; offset = offset })) (v.bound x)) other) (λ b is m. refl) (device_same v (with_binding v r (record { memory = memory; offset = offset })) (λ y e. refl) x refl) u

-- an end: of what is not lost

-- a memory that isn't ended itself stays
pub memory_stays : (v : View) (gone m : ℕ) → (gone == m) ≡ false → is_live v kind.Memory m ≡ true → is_gone v gone m ≡ false
memory_stays v gone m e is_there = at (v.live m) is_there
  where
    owned : (d : Detail) (p : ℕ) → (kind_number (kind_of d) == 5) ≡ true → (gone == m) || is_owned d && (gone == p) ≡ false
    owned (a_memory size) p k = ap (λ t. t || false) e
    owned _ p k = absurd (cc)

    at : (l : Option Object) → passes (λ o. kind_number (kind_of o.detail) == 5) l ≡ true → passes (goes_with gone m) l ≡ false
    at None k = absurd (cc)
    at (Some o) k = owned o.detail o.parent k

-- what stays keeps its device
pub device_end : (v : View) → LawfulObjects v → (gone : ℕ) → ReadyToEnd v gone → (x : ℕ) → (without v gone).live x ≡ v.live x → device_of (without v gone) x ≡ device_of v x
device_end v h gone ready x e =
    device_same v (without v gone)
    (λ y same. parent_cases ((without v gone).live (parent_of v y) ≡ v.live (parent_of v y)) v h y
    (λ none z. ap (after_end gone (parent_of v y)) none ∙ sym none)
    (λ o q l is there. ap (λ p. after_end gone p (v.live p)) (sym is) ∙ parent_stays v h gone ready y o l (ended_some gone y (v.live y) o (same ∙ l)).1 ∙ ap v.live is))
    x e

pub stays_end : (v : View) → LawfulObjects v → (gone : ℕ) → ReadyToEnd v gone → (x : ℕ) → is_lost v gone x ≡ false → is_usable v x ≡ true → SameAt v (without v gone) x
stays_end v h gone ready x kept u =
    let parts = or_parts (gone == x || is_gone v gone x) (rests_on gone (v.bound x)) kept in
    let more = or_parts (gone == x) (is_gone v gone x) parts.0 in
    usable_along v (without v gone) x (λ u. live_end v gone x more.1) (ap (λ t. cond t None (v.bound x)) more.1)
    (λ b is m. live_end v gone b.memory (memory_stays v gone b.memory (ne_eqb gone b.memory (λ same.
    both_ways (b.memory == gone) (ap (rests_on gone) (sym is) ∙ parts.1) (eq-eqb b.memory gone (sym same)))) m))
    (device_end v h gone ready x (live_end v gone x more.1))
    u
