-- Objects stay lawful where one more is created.
use Rattle.std.proofs.Common.{◌≡◌, ℕ, ◌+◌, ◌≤◌, Bool, true, false, refl, sym, ◌∙◌, ap, subst, Option, Some, None, ◌||◌, cond, ◌==◌, inl, inr, if◌then◌else◌}
use Rattle.std.specs.Option.{option_map_or}
use Rattle.std.proofs.lemmas.Bool.{eqb-true, ne_eqb, or_right, both_ways}
use Rattle.gfx_types.specs.declared.names.Kind.{Kind}
use Rattle.gfx_types.specs.declared.names.Kind.TheVariants as kind
use Rattle.gfx_model.specs.Steps.{Object, Detail, kind_of, kind_number}
use Rattle.gfx_model.specs.Steps.Detail.{an_instance, a_surface, a_device, an_image, a_swapchain, a_command_buffer}
use Rattle.gfx_model.specs.Questions.{Binding, passes}
use Rattle.gfx_model.specs.Views.{View, is_on, parent_of, detail_size}
use Rattle.gfx_model.specs.Covers.{is_fetched}
use Rattle.gfx_laws.specs.Lawful.{LawfulObjects, IsImageOf, HasParent, IsKind, Rivals, is_allowed}
use Rattle.gfx_laws.proofs.Ready.{ReadyToCreate}

-- ---- one object more

-- what is live, or is the new one, was used
used_create : (b u : Bool) (l : Option Object) (r o : Object) → (l ≡ Some o → u ≡ true) → cond b (Some r) l ≡ Some o → b || u ≡ true
used_create true u l r o f e = refl
used_create false u l r o f e = f e

-- of what is live the parent is as it was, if that was live
pub image_along : (d : Detail) (l k : Option Object) → ((o : Object) → l ≡ Some o → k ≡ l) → IsImageOf d l → IsImageOf d k
image_along (an_image format width height usage (Some index)) l k f h =
    record { parent = h.parent; surface = h.surface; images = h.images; is_live = f _ h.is_live ∙ h.is_live; in_range = h.in_range }
image_along (an_image format width height usage None) l k f h = tt
image_along _ l k f h = tt

-- an id that was used isn't that of an object which is new
pub is_other : (v : View) (i x : ℕ) → v.used i ≡ false → v.used x ≡ true → (i == x) ≡ false
is_other v i x new old = ne_eqb i x (λ e. both_ways (v.used x) (ap v.used (sym e) ∙ new) old)

-- a live object is as it was, where one more is created
pub live_create : (v : View) → LawfulObjects v → (i : ℕ) (r : Object) → v.used i ≡ false → (x : ℕ) (o : Object) → v.live x ≡ Some o →
    cond (i == x) (Some r) (v.live x) ≡ v.live x
live_create v h i r new x o e = ap (λ b. cond b (Some r) (v.live x)) (is_other v i x new (h.used x o e))

-- a fact on a live object, from that on the new one and those on the others
pub split_create : (P : Object → Type 0) (b : Bool) (l : Option Object) (r o : Object) → (b ≡ true → P r) → (b ≡ false → l ≡ Some o → P o) → cond b (Some r) l ≡ Some o → P o
split_create P true l r o f g e = subst P (let same : r ≡ o = cc in same) (f refl)
split_create P false l r o f g e = g refl e

-- a binding that is left was there before
pub binding_left : (t : Bool) (l : Option Binding) (b : Binding) → cond t None l ≡ Some b → (t ≡ false) × (l ≡ Some b)
binding_left true l b e = absurd (cc)
binding_left false l b e = (refl, e)

pub none_left : (t : Bool) (l : Option Binding) → l ≡ None → cond t None l ≡ None
none_left true l e = refl
none_left false l e = e

-- a live object of a kind is a live object
pub live_of_kind : (v : View) (test : Object → Bool) (x : ℕ) → passes test (v.live x) ≡ true → (o : Object) × (v.live x ≡ Some o)
live_of_kind v test x e = passing (v.live x) e
  where
    passing : (l : Option Object) → passes test l ≡ true → (o : Object) × (l ≡ Some o)
    passing None e = absurd (cc)
    passing (Some o) e = (o, refl)

-- of a kind, and so live
kind_along : (n : Kind) (l k : Option Object) → ((o : Object) → l ≡ Some o → k ≡ l) → IsKind n l → IsKind n k
kind_along n None k f h = absurd (cc)
kind_along n (Some o) k f h = ap (passes (λ o. kind_number (kind_of o.detail) == kind_number n)) (f o refl) ∙ h

-- the answers on objects after one object more
abbrev pub with_object : View → ℕ → Object → View
with_object v i r = record v {
  live = λ x. if i == x then Some r else v.live x;
  used = λ x. i == x || v.used x;
  bound = λ x. if i == x then None else v.bound x;
}

-- rivals are so both ways
rivals_back : (o q : Object) → Rivals o q → Rivals q o
rivals_back o q (inl a) = inl (a.1, a.0, sym a.2)
rivals_back o q (inr (inl a)) = inr (inl (a.0, a.2, a.1))
rivals_back o q (inr (inr a)) = inr (inr (a.0, a.2, a.1, sym a.3))

-- the parent in a look-up
abbrev pub parent_in : Option Object → ℕ
parent_in l = option_map_or (λ o. o.parent) l 0

-- a swapchain is made of a device
pub parent_of_swapchain : (d : Detail) (s p : ℕ) (l : Option Object) → is_on s d ≡ true → HasParent d p l → IsKind kind.Device l
parent_of_swapchain (a_swapchain surface images format width height usage) s p l on h = h
parent_of_swapchain _ s p l on h = absurd (cc)

kind_some : (k : Kind) (l : Option Object) → IsKind k l → (o : Object) × (l ≡ Some o)
kind_some k None e = absurd (cc)
kind_some k (Some o) e = (o, refl)

-- a surface and the device of a swapchain on it, where both stay
pub surface_along : (v w : View) (s p : ℕ) → ((o : Object) → v.live s ≡ Some o → w.live s ≡ v.live s) → ((o : Object) → v.live p ≡ Some o → w.live p ≡ v.live p) →
    IsKind kind.Device (v.live p) → IsKind kind.Surface (v.live s) × (parent_of v s ≡ parent_of v p) → IsKind kind.Surface (w.live s) × (parent_of w s ≡ parent_of w p)
surface_along v w s p f g device h =
    let a = kind_some kind.Surface (v.live s) h.0 in
    let b = kind_some kind.Device (v.live p) device in
    let e = f a.0 a.1 in
    (ap (passes (λ o. kind_number (kind_of o.detail) == 2)) e ∙ h.0, ap parent_in e ∙ h.1 ∙ sym (ap parent_in (g b.0 b.1)))

-- a parent is as it was where what was live is
parent_along : (d : Detail) (p : ℕ) (l k : Option Object) → ((o : Object) → l ≡ Some o → k ≡ l) → HasParent d p l → HasParent d p k
parent_along (an_instance api) p l k f h = h
parent_along a_surface p l k f h = kind_along kind.Instance l k f h
parent_along a_device p l k f h = kind_along kind.Instance l k f h
parent_along a_command_buffer p l k f h = kind_along kind.Pool l k f h
parent_along (an_image format width height usage (Some index)) p l k f h = kind_along kind.Swapchain l k f h
parent_along (an_image format width height usage None) p l k f h = kind_along kind.Device l k f h
parent_along _ p l k f h = kind_along kind.Device l k f h

pub objects_create : (v : View) → LawfulObjects v → (i : ℕ) (r : Object) → ReadyToCreate v i r.parent r.detail → LawfulObjects (with_object v i r)
objects_create v h i r ready = let new = ready.unused in let image = ready.image in record {
  zero = ap (λ t. cond t (Some r) (v.live 0)) ready.positive ∙ h.zero;
  parent = λ x o e. split_create (λ o. HasParent o.detail o.parent ((with_object v i r).live o.parent)) (i == x) (v.live x) r o
      (λ same. parent_along r.detail r.parent (v.live r.parent) ((with_object v i r).live r.parent) (live_create v h i r new r.parent) ready.parent)
      (λ other was. parent_along o.detail o.parent (v.live o.parent) ((with_object v i r).live o.parent) (live_create v h i r new o.parent) (h.parent x o was))
      e;
  allowed = λ x o e. split_create (λ o. is_allowed o.detail ≡ true) (i == x) (v.live x) r o (λ same. ready.allowed) (λ other was. h.allowed x o was) e;
  single = λ x y o q e f rivals.
      split_create (λ o. Rivals o q → x ≡ y) (i == x) (v.live x) r o
      (λ at_x. split_create (λ q. Rivals r q → x ≡ y) (i == y) (v.live y) r q
      (λ at_y rivals. sym (eqb-true i x at_x) ∙ eqb-true i y at_y)
      (λ other was rivals. absurd (ready.single y q was rivals)) f)
      (λ other was. split_create (λ q. Rivals o q → x ≡ y) (i == y) (v.live y) r q
      (λ at_y rivals. absurd (ready.single x o was (rivals_back o r rivals)))
      (λ other_too was_too rivals. h.single x y o q was was_too rivals) f)
      e rivals;
  surface = λ x s o e on.
      split_create (λ o. is_on s o.detail ≡ true → IsKind kind.Surface ((with_object v i r).live s) × (parent_of (with_object v i r) s ≡ parent_of (with_object v i r) o.parent)) (i == x) (v.live x) r o
      (λ same on. surface_along v (with_object v i r) s r.parent (live_create v h i r new s) (live_create v h i r new r.parent) (parent_of_swapchain r.detail s r.parent (v.live r.parent) on ready.parent) (ready.surface s on))
      (λ other was on. surface_along v (with_object v i r) s o.parent (live_create v h i r new s) (live_create v h i r new o.parent) (parent_of_swapchain o.detail s o.parent (v.live o.parent) on (h.parent x o was)) (h.surface x s o was on))
      e on;
  used = λ x o e. used_create (i == x) (v.used x) (v.live x) r o (h.used x o) e;
  fetched = λ x o e. split_create (λ o. IsImageOf o.detail ((with_object v i r).live o.parent)) (i == x) (v.live x) r o
      (λ same. image_along r.detail (v.live r.parent) ((with_object v i r).live r.parent) (live_create v h i r new r.parent) image)
      (λ other was. image_along o.detail (v.live o.parent) ((with_object v i r).live o.parent) (live_create v h i r new o.parent) (h.fetched x o was))
      e;
  memory = λ x b e. or_right (i == b.memory) (v.used b.memory) (h.memory x b (binding_left (i == x) (v.bound x) b e).1);
  unbound = λ x o e f. split_create (λ o. is_fetched o.detail ≡ true → cond (i == x) None (v.bound x) ≡ None) (i == x) (v.live x) r o
      (λ same g. ap (λ t. cond t None (v.bound x)) same)
      (λ other was g. none_left (i == x) (v.bound x) (h.unbound x o was g))
      e f;
  inside = λ x o b e bound memory.
      let was = binding_left (i == x) (v.bound x) b bound in
      let there : v.live x ≡ Some o = sym (ap (λ t. cond t (Some r) (v.live x)) was.0) ∙ e in
      let kept : (with_object v i r).live b.memory ≡ v.live b.memory = ap (λ t. cond t (Some r) (v.live b.memory)) (is_other v i b.memory new (h.memory x b was.1)) in
      subst (λ l. b.offset + detail_size o.detail ≤ option_map_or (λ o. detail_size o.detail) l 0) (sym kept)
      (h.inside x o b there was.1 (ap (λ l. passes (λ o. kind_number (kind_of o.detail) == 5) l) (sym kept) ∙ memory));
  together = λ x o b e bound memory.
      let was = binding_left (i == x) (v.bound x) b bound in
      let there : v.live x ≡ Some o = sym (ap (λ t. cond t (Some r) (v.live x)) was.0) ∙ e in
      let kept : (with_object v i r).live b.memory ≡ v.live b.memory = ap (λ t. cond t (Some r) (v.live b.memory)) (is_other v i b.memory new (h.memory x b was.1)) in
      ap parent_in kept ∙ h.together x o b there was.1 (ap (λ l. passes (λ o. kind_number (kind_of o.detail) == 5) l) (sym kept) ∙ memory);
  aligned = λ x b bound. h.aligned x b (binding_left (i == x) (v.bound x) b bound).1;
}
