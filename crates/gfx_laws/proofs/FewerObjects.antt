-- Objects stay lawful where one ends.
use Rattle.std.proofs.Common.{◌≡◌, ℕ, ◌+◌, ◌≤◌, Bool, true, false, refl, sym, ◌∙◌, ap, subst, [], ◌∷◌, Option, Some, None, ◌&&◌, ◌||◌, cond, ◌==◌, inl, inr, ◌⊎◌, if◌then◌else◌}
use Rattle.std.specs.Option.{option_map_or}
use Rattle.std.proofs.lemmas.Bool.{eqb-true, eq-eqb, or_parts, false_from_ne_true, both_ways, and_from}
use Rattle.gfx_types.specs.declared.names.Kind.TheVariants as kind
use Rattle.gfx_model.specs.Checks.{is_among}
use Rattle.gfx_model.specs.Steps.{Object, Detail, kind_of, kind_number}
use Rattle.gfx_model.specs.Steps.Detail.{an_instance, a_surface, a_device, a_queue, an_image, a_swapchain, a_command_buffer}
use Rattle.gfx_model.specs.Questions.{passes, goes_with, after_end, is_owned}
use Rattle.gfx_model.specs.Views.{View, is_on, detail_size}
use Rattle.gfx_model.specs.After.{is_gone}
use Rattle.gfx_laws.specs.Lawful.{LawfulObjects, IsImageOf, HasParent, IsKind}
use Rattle.gfx_laws.proofs.Ready.{ReadyToEnd}
use Rattle.gfx_laws.proofs.MoreObjects.{binding_left, live_of_kind, none_left, parent_in, parent_of_swapchain, surface_along}

-- ---- an end

-- what is live after an end was live before it, and doesn't go
pub ended_some : (gone x : ℕ) (l : Option Object) (o : Object) → after_end gone x l ≡ Some o → (l ≡ Some o) × (goes_with gone x o ≡ false)
ended_some gone x None o e = absurd (cc)
ended_some gone x (Some r) o e = split (goes_with gone x r) refl e
  where
    split : (b : Bool) → goes_with gone x r ≡ b → cond b None (Some r) ≡ Some o → (Some r ≡ Some o) × (goes_with gone x o ≡ false)
    split true is e = absurd (cc)
    split false is e = (e, ap (goes_with gone x) (let same : o ≡ r = cc in same) ∙ is)

-- what is there after an end is as it was
pub ended_same : (gone x : ℕ) (l : Option Object) (o : Object) → after_end gone x l ≡ Some o → after_end gone x l ≡ l
ended_same gone x l o e = e ∙ sym (ended_some gone x l o e).0

swapchain_stays : (gone x : ℕ) (l : Option Object) (d : Detail) → is_owned d && (gone == x) ≡ false → IsImageOf d l → IsImageOf d (after_end gone x l)
swapchain_stays gone x l (an_image format width height usage (Some index)) e h = record {
  parent = h.parent;
  surface = h.surface;
  images = h.images;
  in_range = h.in_range;
  is_live = ap (after_end gone x) h.is_live
      ∙ ap (λ b. cond (b || false) None (Some (record { parent = h.parent; detail = a_swapchain h.surface h.images format width height usage }))) e;
}
swapchain_stays gone x l (an_image format width height usage None) e h = tt
swapchain_stays gone x l _ e h = tt

-- what isn't over with an end is as it was
pub live_end : (v : View) (gone x : ℕ) → is_gone v gone x ≡ false → after_end gone x (v.live x) ≡ v.live x
live_end v gone x e = at (v.live x) e
  where
    at : (l : Option Object) → passes (goes_with gone x) l ≡ false → after_end gone x l ≡ l
    at None e = refl
    at (Some o) e = ap (λ t. cond {A = Option Object} t None (Some o)) e

abbrev pub without : View → ℕ → View
without v gone = record v {
  live = λ x. after_end gone x (v.live x);
  bound = λ x. if is_gone v gone x then None else v.bound x;
}

-- parents are of these kinds, and never go with another
abbrev is_parent_number : ℕ → Bool
is_parent_number n = is_among n (1 ∷ 3 ∷ 8 ∷ 12 ∷ [])

unowned : (n : ℕ) (d : Detail) → is_parent_number n ≡ true → (kind_number (kind_of d) == n) ≡ true → is_owned d ≡ false
unowned n a_queue p e = absurd (both_ways (is_parent_number 4) refl (ap is_parent_number (eqb-true 4 n e) ∙ p))
unowned n a_command_buffer p e = absurd (both_ways (is_parent_number 9) refl (ap is_parent_number (eqb-true 9 n e) ∙ p))
unowned n (an_image format width height usage index) p e = absurd (both_ways (is_parent_number 7) refl (ap is_parent_number (eqb-true 7 n e) ∙ p))
unowned n _ p e = refl

-- a parent: none, or a live object that goes with no other
abbrev pub IsParent : ℕ → Option Object → Type 0
IsParent p l = (p ≡ 0) ⊎ ((o : Object) × (l ≡ Some o) × (is_owned o.detail ≡ false))

is_parent : (n : ℕ) → is_parent_number n ≡ true → (p : ℕ) (l : Option Object) → passes (λ o. kind_number (kind_of o.detail) == n) l ≡ true → IsParent p l
is_parent n q p None e = absurd (cc)
is_parent n q p (Some o) e = inr (o, refl, unowned n o.detail q e)

pub parent_is : (d : Detail) (p : ℕ) (l : Option Object) → HasParent d p l → IsParent p l
parent_is (an_instance api) p l h = inl h
parent_is a_surface p l h = is_parent 1 refl p l h
parent_is a_device p l h = is_parent 1 refl p l h
parent_is a_command_buffer p l h = is_parent 8 refl p l h
parent_is (an_image format width height usage (Some index)) p l h = is_parent 12 refl p l h
parent_is (an_image format width height usage None) p l h = is_parent 3 refl p l h
parent_is _ p l h = is_parent 3 refl p l h

-- the parent of what stays after an end stays
pub parent_stays : (v : View) → LawfulObjects v → (gone : ℕ) → ReadyToEnd v gone → (x : ℕ) (o : Object) → v.live x ≡ Some o → goes_with gone x o ≡ false →
    (without v gone).live o.parent ≡ v.live o.parent
parent_stays v h gone ready x o live stays = by (parent_is o.detail o.parent (v.live o.parent) (h.parent x o live))
  where
    other : (gone == o.parent) ≡ false
    other = false_from_ne_true _ (λ e.
        let owned = ready.children x o live (eq-eqb o.parent gone (sym (eqb-true gone o.parent e))) in
        both_ways (is_owned o.detail && (gone == o.parent)) (or_parts (gone == x) _ stays).1 (and_from _ _ owned e))

    by : IsParent o.parent (v.live o.parent) → after_end gone o.parent (v.live o.parent) ≡ v.live o.parent
    by (inl z) = let none : v.live o.parent ≡ None = ap v.live z ∙ h.zero in ap (after_end gone o.parent) none ∙ sym none
    by (inr q) =
        ap (after_end gone o.parent) q.1
        ∙ ap (λ t. cond {A = Option Object} (t || is_owned (q.0).detail && (gone == (q.0).parent)) None (Some q.0)) other
        ∙ ap (λ t. cond {A = Option Object} (t && (gone == (q.0).parent)) None (Some q.0)) q.2
        ∙ sym q.1

-- a surface stays where it isn't ended itself
surface_stays : (v : View) (gone s : ℕ) (q : Object) → v.live s ≡ Some q → (gone == s) ≡ false → IsKind kind.Surface (v.live s) → (without v gone).live s ≡ v.live s
surface_stays v gone s q live other surface =
    ap (after_end gone s) live
    ∙ ap (λ t. cond {A = Option Object} (t || is_owned q.detail && (gone == q.parent)) None (Some q)) other
    ∙ ap (λ t. cond {A = Option Object} (t && (gone == q.parent)) None (Some q)) (unowned_surface q.detail (ap (passes (λ o. kind_number (kind_of o.detail) == 2)) (sym live) ∙ surface))
    ∙ sym live
  where
    unowned_surface : (d : Detail) → (kind_number (kind_of d) == 2) ≡ true → is_owned d ≡ false
    unowned_surface a_surface e = refl
    unowned_surface _ e = absurd (cc)

pub objects_end : (v : View) → LawfulObjects v → (gone : ℕ) → ReadyToEnd v gone → LawfulObjects (without v gone)
objects_end v h gone ready = record {
  zero = ap (after_end gone 0) h.zero;
  parent = λ x o e.
      let was = ended_some gone x (v.live x) o e in
      subst (HasParent o.detail o.parent) (sym (parent_stays v h gone ready x o was.0 was.1)) (h.parent x o was.0);
  allowed = λ x o e. h.allowed x o (ended_some gone x (v.live x) o e).0;
  single = λ x y o q e f rivals. h.single x y o q (ended_some gone x (v.live x) o e).0 (ended_some gone y (v.live y) q f).0 rivals;
  surface = λ x s o e on.
      let was = ended_some gone x (v.live x) o e in
      let before = h.surface x s o was.0 on in
      surface_along v (without v gone) s o.parent
      (λ q live. surface_stays v gone s q live (false_from_ne_true _ (λ t. ready.surface x o was.0 (subst (λ y. is_on y o.detail ≡ true) (sym (eqb-true gone s t)) on))) before.0)
      (λ q live. parent_stays v h gone ready x o was.0 was.1)
      (parent_of_swapchain o.detail s o.parent (v.live o.parent) on (h.parent x o was.0)) before;
  used = λ x o e. h.used x o (ended_some gone x (v.live x) o e).0;
  fetched = λ x o e.
      let was = ended_some gone x (v.live x) o e in
      swapchain_stays gone o.parent (v.live o.parent) o.detail (or_parts _ _ was.1).1 (h.fetched x o was.0);
  memory = λ x b e. h.memory x b (binding_left (is_gone v gone x) (v.bound x) b e).1;
  unbound = λ x o e f. none_left (is_gone v gone x) (v.bound x) (h.unbound x o (ended_some gone x (v.live x) o e).0 f);
  inside = λ x o b e bound memory.
      let there = live_of_kind (without v gone) _ b.memory memory in
      let kept = ended_same gone b.memory (v.live b.memory) there.0 there.1 in
      subst (λ l. b.offset + detail_size o.detail ≤ option_map_or (λ o. detail_size o.detail) l 0) (sym kept)
      (h.inside x o b (ended_some gone x (v.live x) o e).0 (binding_left (is_gone v gone x) (v.bound x) b bound).1 (ap (λ l. passes (λ o. kind_number (kind_of o.detail) == 5) l) (sym kept) ∙ memory));
  together = λ x o b e bound memory.
      let there = live_of_kind (without v gone) _ b.memory memory in
      let kept = ended_same gone b.memory (v.live b.memory) there.0 there.1 in
      ap parent_in kept ∙ h.together x o b (ended_some gone x (v.live x) o e).0 (binding_left (is_gone v gone x) (v.bound x) b bound).1 (ap (λ l. passes (λ o. kind_number (kind_of o.detail) == 5) l) (sym kept) ∙ memory);
  aligned = λ x b bound. h.aligned x b (binding_left (is_gone v gone x) (v.bound x) b bound).1;
}
