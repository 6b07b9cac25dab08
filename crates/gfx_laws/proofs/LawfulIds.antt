-- The ids stay exactly those of live objects, and rise.
use Rattle.std.proofs.Common.{◌≡◌, ℕ, ◌<◌, Bool, true, false, refl, sym, ◌∙◌, ap, List, [], ◌∷◌, Option, Some, None, ◌&&◌, ◌||◌, not, cond, is_some, ◌==◌, nat_le, filter, arith}
use Rattle.std.specs.List.{AllByRecursion}
use Rattle.std.proofs.lemmas.Bool.{eqb-true, eqb-false, or_parts, both_ways, false_from_ne_true, leb-true, leb-false}
use Rattle.gfx_model.specs.Steps.{Step, Object}
use Rattle.gfx_model.specs.Steps.Step.{creates, ends}
use Rattle.gfx_model.specs.Questions.{passes, goes_with, after_end, insert_rising}
use Rattle.gfx_model.specs.Checks.{is_among}
use Rattle.gfx_model.specs.Views.{View}
use Rattle.gfx_model.specs.After.{after, is_gone}
use Rattle.gfx_laws.specs.Lawful.{base, LawfulObjects, LawfulIds, IsRising}
use Rattle.gfx_laws.proofs.Ready.{Ready}
use Rattle.gfx_model.proofs.Lists.{all_along}
use Rattle.gfx_laws.proofs.Cases.{some_of}

-- ---- an id more

among_insert : (i x : ℕ) (xs : List ℕ) → is_among x (insert_rising i xs) ≡ (i == x) || is_among x xs
among_insert i x [] = refl
among_insert i x (y ∷ ys) = by (nat_le i y) (among_insert i x ys)
  where
    turn : (a b c : Bool) → b || (a || c) ≡ a || (b || c)
    turn true true c = refl
    turn true false c = refl
    turn false true c = refl
    turn false false c = refl

    by : (t : Bool) → is_among x (insert_rising i ys) ≡ (i == x) || is_among x ys → is_among x (cond t (i ∷ y ∷ ys) (y ∷ insert_rising i ys)) ≡ (i == x) || is_among x (y ∷ ys)
    by true ih = refl
    by false ih = ap (λ t. (y == x) || t) ih ∙ turn (i == x) (y == x) (is_among x ys)

some_create : (b : Bool) (r : Object) (l : Option Object) → is_some (cond b (Some r) l) ≡ b || is_some l
some_create true r l = refl
some_create false r l = refl

-- what is below each of the list is below each of a list with one more that it is below
below_insert : (x i : ℕ) (xs : List ℕ) → x < i → AllByRecursion (λ y. x < y) xs → AllByRecursion (λ y. x < y) (insert_rising i xs)
below_insert x i [] b a = (b, tt)
below_insert x i (y ∷ ys) b a = by (nat_le i y) (below_insert x i ys b a.1)
  where
    by : (t : Bool) → AllByRecursion (λ y. x < y) (insert_rising i ys) → AllByRecursion (λ y. x < y) (cond t (i ∷ y ∷ ys) (y ∷ insert_rising i ys))
    by true ih = (b, a)
    by false ih = (a.0, ih)

rising_insert : (i : ℕ) (xs : List ℕ) → is_among i xs ≡ false → IsRising xs → IsRising (insert_rising i xs)
rising_insert i [] new r = (tt, tt)
rising_insert i (y ∷ ys) new r = by (nat_le i y) refl (rising_insert i ys (or_parts (y == i) (is_among i ys) new).1 r.1)
  where
    other : y ≡ i → ⊥
    other = eqb-false y i (or_parts (y == i) (is_among i ys) new).0

    by : (t : Bool) → nat_le i y ≡ t → IsRising (insert_rising i ys) → IsRising (cond t (i ∷ y ∷ ys) (y ∷ insert_rising i ys))
    by true e ih =
        let low = leb-true i y e in
        let below : i < y = omega (arith, other) in
        ((below, all_along (λ z. y < z) (λ z. i < z) (λ z c. omega arith) ys r.0), r)
    by false e ih = (below_insert y i ys (leb-false i y e) r.0, ih)

-- ---- ids that go

pub among_filter : (t : ℕ → Bool) (x : ℕ) (xs : List ℕ) → is_among x (filter t xs) ≡ is_among x xs && t x
among_filter t x [] = refl
among_filter t x (y ∷ ys) = by (t y) refl (among_filter t x ys)
  where
    at : (b : Bool) → (y == x) ≡ b → t y ≡ true → b || (is_among x ys && t x) ≡ (b || is_among x ys) && t x
    at true e k = sym k ∙ ap t (eqb-true y x e)
    at false e k = refl

    off : (b : Bool) → (y == x) ≡ b → t y ≡ false → is_among x ys && t x ≡ (b || is_among x ys) && t x
    off true e k = by_false (is_among x ys) (sym (ap t (eqb-true y x e)) ∙ k)
      where
        by_false : (a : Bool) → t x ≡ false → a && t x ≡ t x
        by_false true f = refl
        by_false false f = sym f
    off false e k = refl

    by : (b : Bool) → t y ≡ b → is_among x (filter t ys) ≡ is_among x ys && t x → is_among x (cond b (y ∷ filter t ys) (filter t ys)) ≡ is_among x (y ∷ ys) && t x
    by true k ih = ap (λ r. (y == x) || r) ih ∙ at (y == x) refl k
    by false k ih = ih ∙ off (y == x) refl k

pub all_filter : (P : ℕ → Type 0) (t : ℕ → Bool) (xs : List ℕ) → AllByRecursion P xs → AllByRecursion P (filter t xs)
all_filter P t [] a = tt
all_filter P t (x ∷ xs) a = by (t x) (all_filter P t xs a.1)
  where
    by : (b : Bool) → AllByRecursion P (filter t xs) → AllByRecursion P (cond b (x ∷ filter t xs) (filter t xs))
    by true r = (a.0, r)
    by false r = r

pub rising_filter : (t : ℕ → Bool) (xs : List ℕ) → IsRising xs → IsRising (filter t xs)
rising_filter t [] r = tt
rising_filter t (x ∷ xs) r = by (t x) (rising_filter t xs r.1)
  where
    by : (b : Bool) → IsRising (filter t xs) → IsRising (cond b (x ∷ filter t xs) (filter t xs))
    by true ih = (all_filter (λ y. x < y) t xs r.0, ih)
    by false ih = ih

some_ended : (gone x : ℕ) (l : Option Object) → is_some (after_end gone x l) ≡ is_some l && not (passes (goes_with gone x) l)
some_ended gone x None = refl
some_ended gone x (Some o) = by (goes_with gone x o)
  where
    by : (g : Bool) → is_some (cond {A = Option Object} g None (Some o)) ≡ not g
    by true = refl
    by false = refl

pub ids_after : (v : View) (s : Step) → LawfulObjects (base v) → LawfulIds v.live v.ids → Ready v s → LawfulIds (after v s).live (after v s).ids
unfolding after
ids_after v (creates i parent detail) objects h ready =
    let r : Object = record { parent = parent; detail = detail } in
    record {
      exact = λ x. among_insert i x v.ids ∙ ap (λ t. (i == x) || t) (h.exact x) ∙ sym (some_create (i == x) r (v.live x));
      rising = rising_insert i v.ids (false_from_ne_true _ (λ e.
          let o = some_of (v.live i) (sym (h.exact i) ∙ e) in both_ways (v.used i) ready.unused (objects.used i o.0 o.1))) h.rising;
    }
ids_after v (ends gone) objects h ready = record {
  exact = λ x. among_filter (λ x. not (is_gone v gone x)) x v.ids ∙ ap (λ t. t && not (is_gone v gone x)) (h.exact x) ∙ sym (some_ended gone x (v.live x));
  rising = rising_filter (λ x. not (is_gone v gone x)) v.ids h.rising;
}
ids_after v _ objects h ready = h
