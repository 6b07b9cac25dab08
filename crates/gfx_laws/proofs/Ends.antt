-- Objects are ready to end.
use Rattle.std.proofs.Common.{◌≡◌, ℕ, ◌+◌, Bool, true, false, refl, sym, ◌∙◌, ap, subst, List, [], ◌∷◌, map, Option, Some, None, cond, is_some, ◌&&◌, ◌||◌, ◌==◌, arith, inl, inr, ◌⊎◌, count_by, find}
use Rattle.std.specs.List.{AllByRecursion}
use Rattle.std.proofs.lemmas.List.Sums.{sum_by-cons}
use Rattle.std.proofs.lemmas.Bool.{eqb-true, both_ways, false≢true, or_left, or_right, and_parts, or_cases, eq-eqb}
use Rattle.gfx_types.specs.declared.names.Kind.TheVariants as kind
use Rattle.gfx_model.specs.Steps.{Object, Detail, kind_of, kind_number}
use Rattle.gfx_model.specs.Steps.Step.{ends}
use Rattle.gfx_model.specs.Steps.Detail.{an_instance, a_surface, a_device, a_queue, an_image, a_command_buffer}
use Rattle.gfx_model.specs.Questions.{passes, is_owned, after_end, goes_with}
use Rattle.gfx_model.specs.Views.{View, is_one, children, is_queue, is_on, has_swapchain, is_live, queue_of}
use Rattle.gfx_model.specs.Checks.{broken, is_among}
use Rattle.gfx_model.specs.Table.{live_once}
use Rattle.gfx_model.specs.After.{after}
use Rattle.gfx_model.specs.Covers.{is_fetched}
use Rattle.gfx_model.proofs.Covered.{unless_none}
use Rattle.gfx_laws.specs.Lawful.{base, LawfulObjects, LawfulIds, HasParent, IsKind, Passes}
use Rattle.gfx_laws.proofs.Ready.{AllReady, ReadyToEnd}
use Rattle.gfx_model.proofs.Lists.{all_along}
use Rattle.gfx_laws.proofs.MoreObjects.{live_of_kind}
use Rattle.gfx_laws.proofs.FewerObjects.{ended_some}
use Rattle.gfx_laws.proofs.NewObjects.{any_none}

-- ---- ends

-- an object of another kind than an instance or a device has no children but those that go with it
parent_number : (v : View) → LawfulObjects v → (n gone : ℕ) → passes (λ o. kind_number (kind_of o.detail) == n) (v.live gone) ≡ true → (n == 1) ≡ false → (n == 3) ≡ false →
    (d : Detail) → HasParent d gone (v.live gone) → is_owned d ≡ true
parent_number v h n gone there one three d parent = by d parent
  where
    differs : (m : ℕ) → (n == m) ≡ false → passes (λ o. kind_number (kind_of o.detail) == m) (v.live gone) ≡ true → ⊥
    differs m other e = at (v.live gone) there e
      where
        at : (l : Option Object) → passes (λ o. kind_number (kind_of o.detail) == n) l ≡ true → passes (λ o. kind_number (kind_of o.detail) == m) l ≡ true → ⊥
        at None e d = cc
        at (Some o) e d = both_ways (n == m) other (eq-eqb n m (sym (eqb-true _ n e) ∙ eqb-true _ m d))

    by : (d : Detail) → HasParent d gone (v.live gone) → is_owned d ≡ true
    by (an_instance api) p = absurd (both_ways (passes (λ o. kind_number (kind_of o.detail) == n) (v.live gone)) (ap (passes (λ o. kind_number (kind_of o.detail) == n)) (ap v.live p ∙ h.zero)) there)
    by a_surface p = absurd (differs 1 one p)
    by a_device p = absurd (differs 1 one p)
    by a_command_buffer p = refl
    by a_queue p = refl
    by (an_image format width height usage (Some index)) p = refl
    by (an_image format width height usage None) p = absurd (differs 3 three p)
    by _ p = absurd (differs 3 three p)

-- nor is a swapchain on an object of another kind than a surface
pub no_swapchain : (v : View) → LawfulObjects v → (n gone : ℕ) → passes (λ o. kind_number (kind_of o.detail) == n) (v.live gone) ≡ true → (n == 2) ≡ false →
    (x : ℕ) (o : Object) → v.live x ≡ Some o → is_on gone o.detail ≡ true → ⊥
no_swapchain v h n gone there two x o at on = by (v.live gone) there (h.surface x gone o at on).0
  where
    by : (l : Option Object) → passes (λ o. kind_number (kind_of o.detail) == n) l ≡ true → passes (λ o. kind_number (kind_of o.detail) == 2) l ≡ true → ⊥
    by None e d = cc
    by (Some o) e d = both_ways (n == 2) two (eq-eqb n 2 (sym (eqb-true _ n e) ∙ eqb-true _ 2 d))

pub childless_kind : (v : View) → LawfulObjects v → (n gone : ℕ) → passes (λ o. kind_number (kind_of o.detail) == n) (v.live gone) ≡ true → (n == 1) ≡ false → (n == 3) ≡ false →
    (x : ℕ) (o : Object) → v.live x ≡ Some o → (o.parent == gone) ≡ true → is_owned o.detail ≡ true
childless_kind v h n gone there one three x o at parent =
    parent_number v h n gone there one three o.detail (subst (λ p. HasParent o.detail p (v.live p)) (eqb-true o.parent gone parent) (h.parent x o at))

-- and it is no image of a swapchain, if it is no image
pub kind_own : (n : ℕ) (l : Option Object) → (n == 7) ≡ false → passes (λ o. kind_number (kind_of o.detail) == n) l ≡ true → passes (λ o. is_fetched o.detail) l ≡ false
kind_own n None seven e = absurd (cc)
kind_own n (Some o) seven e = by o.detail e
  where
    by : (d : Detail) → (kind_number (kind_of d) == n) ≡ true → is_fetched d ≡ false
    by (an_image format width height usage index) e = absurd (both_ways (n == 7) seven (eq-eqb n 7 (sym (eqb-true 7 n e))))
    by _ e = refl

pub end_ready : (v : View) → LawfulObjects v → (n gone : ℕ) → passes (λ o. kind_number (kind_of o.detail) == n) (v.live gone) ≡ true → (n == 1) ≡ false → (n == 3) ≡ false → (n == 2) ≡ false → (n == 7) ≡ false → ReadyToEnd v gone
end_ready v h n gone there one three two seven = record { is_own = kind_own n (v.live gone) seven there; children = childless_kind v h n gone there one three; surface = no_swapchain v h n gone there two }

-- a surface without a swapchain
pub surface_ready : (v : View) → LawfulObjects (base v) → LawfulIds v.live v.ids → (gone : ℕ) → is_live v kind.Surface gone ≡ true → has_swapchain v gone ≡ false → ReadyToEnd (base v) gone
surface_ready v h ids gone there none = record {
  is_own = kind_own 2 (v.live gone) refl there;
  children = childless_kind (base v) h 2 gone there refl refl;
  surface = λ x o at on. any_none (is_one v (λ o. is_on gone o.detail)) v.ids x none (ids.exact x ∙ ap is_some at) (ap (passes (λ o. is_on gone o.detail)) at ∙ on);
}

-- what is ready to end stays so after another end
end_stays : (v : View) (x gone : ℕ) → ReadyToEnd (base v) gone → ReadyToEnd (base (after v (ends x))) gone
unfolding after
end_stays v x gone ready = record {
  is_own = by (v.live gone) ready.is_own;
  children = λ y o e parent. ready.children y o (ended_some x y (v.live y) o e).0 parent;
  surface = λ y o e on. ready.surface y o (ended_some x y (v.live y) o e).0 on;
}
  where
    at : (t : Bool) (o : Object) → is_fetched o.detail ≡ false → passes (λ o. is_fetched o.detail) (cond {A = Option Object} t None (Some o)) ≡ false
    at true o e = refl
    at false o e = e

    by : (l : Option Object) → passes (λ o. is_fetched o.detail) l ≡ false → passes (λ o. is_fetched o.detail) (after_end x gone l) ≡ false
    by None e = refl
    by (Some o) e = at (goes_with x gone o) o e

pub ends_ready : (v : View) (xs : List ℕ) → AllByRecursion (ReadyToEnd (base v)) xs → AllReady v (map ends xs)
ends_ready v [] a = tt
ends_ready v (x ∷ xs) a = (a.0, ends_ready (after v (ends x)) xs (all_along (ReadyToEnd (base v)) (ReadyToEnd (base (after v (ends x)))) (end_stays v x) xs a.1))

pub each_once : (v : View) (earlier xs : List ℕ) → AllByRecursion (Passes v) (live_once kind.CommandBuffer earlier xs) → AllByRecursion (λ x. IsKind kind.CommandBuffer (v.live x)) xs
unfolding broken
each_once v earlier [] a = tt
each_once v earlier (x ∷ xs) a = (unless_none _ _ a.0, each_once v (x ∷ earlier) xs a.1.1)

-- one item more
count_cons : (t : ℕ → Bool) (y : ℕ) (ys : List ℕ) → count_by t (y ∷ ys) ≡ cond (t y) 1 0 + count_by t ys
count_cons t y ys = sum_by-cons (λ x. cond (t x) 1 0) y ys

-- no item passes where none is counted
count_none : (t : ℕ → Bool) (xs : List ℕ) (x : ℕ) → count_by t xs ≡ 0 → is_among x xs ≡ true → t x ≡ true → ⊥
count_none t [] x c m e = cc
count_none t (y ∷ ys) x c m e =
    let sum : cond (t y) 1 0 + count_by t ys ≡ 0 = sym (count_cons t y ys) ∙ c in
    let rest : count_by t ys ≡ 0 = omega (arith, sum) in
    let first : cond (t y) 1 0 ≡ 0 = omega (arith, sum) in
    by (or_cases (y == x) (is_among x ys) m) (λ more. count_none t ys x rest more e) (λ same. not_one (t y) first (ap t (eqb-true y x same) ∙ e))
  where
    by : ((y == x) ≡ true) ⊎ (is_among x ys ≡ true) → (is_among x ys ≡ true → ⊥) → ((y == x) ≡ true → ⊥) → ⊥
    by (inl same) f g = g same
    by (inr more) f g = f more

    not_one : (b : Bool) → cond {A = ℕ} b 1 0 ≡ 0 → b ≡ true → ⊥
    not_one true z k = omega (arith, z)
    not_one false z k = false≢true k

-- two items that pass are one where one is counted
count_one : (t : ℕ → Bool) (xs : List ℕ) (x z : ℕ) → count_by t xs ≡ 1 → is_among x xs ≡ true → t x ≡ true → is_among z xs ≡ true → t z ≡ true → x ≡ z
count_one t [] x z c m e n d = absurd (cc)
count_one t (y ∷ ys) x z c m e n d =
    by (t y) refl (or_cases (y == x) (is_among x ys) m) (or_cases (y == z) (is_among z ys) n) (λ more less rest. count_one t ys x z rest more e less d)
  where
    sum : cond (t y) 1 0 + count_by t ys ≡ 1
    sum = sym (count_cons t y ys) ∙ c

    by : (b : Bool) → t y ≡ b → ((y == x) ≡ true) ⊎ (is_among x ys ≡ true) → ((y == z) ≡ true) ⊎ (is_among z ys ≡ true) →
        (is_among x ys ≡ true → is_among z ys ≡ true → count_by t ys ≡ 1 → x ≡ z) → x ≡ z
    by true k m n more =
        let none : count_by t ys ≡ 0 = (let here : cond true 1 0 + count_by t ys ≡ 1 = ap (λ b. cond b 1 0 + count_by t ys) (sym k) ∙ sum in omega (arith, here)) in
        at none m n
      where
        at : count_by t ys ≡ 0 → ((y == x) ≡ true) ⊎ (is_among x ys ≡ true) → ((y == z) ≡ true) ⊎ (is_among z ys ≡ true) → x ≡ z
        at none (inl a) (inl b) = sym (eqb-true y x a) ∙ eqb-true y z b
        at none (inr a) n = absurd (count_none t ys x none a e)
        at none (inl a) (inr b) = absurd (count_none t ys z none b d)
    by false k m n more =
        let rest : count_by t ys ≡ 1 = (let here : cond false 1 0 + count_by t ys ≡ 1 = ap (λ b. cond b 1 0 + count_by t ys) (sym k) ∙ sum in omega (arith, here)) in
        at rest m n
      where
        off : (w : ℕ) → t w ≡ true → (y == w) ≡ true → ⊥
        off w p q = both_ways (t y) k (ap t (eqb-true y w q) ∙ p)

        at : count_by t ys ≡ 1 → ((y == x) ≡ true) ⊎ (is_among x ys ≡ true) → ((y == z) ≡ true) ⊎ (is_among z ys ≡ true) → x ≡ z
        at rest (inl a) n = absurd (off x e a)
        at rest (inr a) (inl b) = absurd (off z d b)
        at rest (inr a) (inr b) = more a b rest

-- what is found passes, and is there
found_passes : (t : ℕ → Bool) (xs : List ℕ) (q : ℕ) → find t xs ≡ Some q → (is_among q xs ≡ true) × (t q ≡ true)
found_passes t [] q e = absurd (cc)
found_passes t (x ∷ xs) q e = by (t x) refl e (found_passes t xs q)
  where
    by : (b : Bool) → t x ≡ b → cond b (Some x) (find t xs) ≡ Some q → (find t xs ≡ Some q → (is_among q xs ≡ true) × (t q ≡ true)) → ((x == q) || is_among q xs ≡ true) × (t q ≡ true)
    by true k e more = let same : x ≡ q = cc in (or_left (x == q) (is_among q xs) (eq-eqb x q same), ap t (sym same) ∙ k)
    by false k e more = let rest = more e in (or_right (x == q) (is_among q xs) rest.0, rest.1)

pub no_children : (v : View) → LawfulIds v.live v.ids → (gone : ℕ) → children v gone ≡ 0 → (x : ℕ) (o : Object) → v.live x ≡ Some o → (o.parent == gone) ≡ true → is_owned o.detail ≡ true
no_children v h gone none x o live parent =
    absurd (count_none (is_one v (λ o. o.parent == gone)) v.ids x none (h.exact x ∙ ap is_some live) (ap (passes (λ o. o.parent == gone)) live ∙ parent))

-- the queue of a device is the one child of it where there is one more than none
pub queue_child : (v : View) → LawfulIds v.live v.ids → (device : ℕ) (o : Option ℕ) → queue_of v device ≡ o → children v device ≡ cond (is_some o) 1 0 →
    (x : ℕ) (p : Object) → v.live x ≡ Some p → (p.parent == device) ≡ true → is_owned p.detail ≡ true
queue_child v h device None is count x o there parent = no_children v h device count x o there parent
queue_child v h device (Some q) is count x o there parent =
    let found = found_passes (is_one v (λ o. o.parent == device && is_queue o.detail)) v.ids q is in
    let at_q = live_of_kind v (λ o. o.parent == device && is_queue o.detail) q found.1 in
    let parts = and_parts ((at_q.0).parent == device) (is_queue (at_q.0).detail) (ap (passes (λ o. o.parent == device && is_queue o.detail)) (sym at_q.1) ∙ found.1) in
    let same : x ≡ q = count_one (is_one v (λ o. o.parent == device)) v.ids x q count
    (h.exact x ∙ ap is_some there) (ap (passes (λ o. o.parent == device)) there ∙ parent)
    found.0 (ap (passes (λ o. o.parent == device)) at_q.1 ∙ parts.0) in
    let object : o ≡ at_q.0 = (let e : Some o ≡ Some at_q.0 = sym there ∙ ap v.live same ∙ at_q.1 in cc) in
    ap (λ (o : Object). is_owned o.detail) object ∙ owned_queue (at_q.0).detail parts.1
  where
    owned_queue : (d : Detail) → is_queue d ≡ true → is_owned d ≡ true
    owned_queue a_queue e = refl
    owned_queue _ e = absurd (cc)
