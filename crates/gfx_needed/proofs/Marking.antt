-- Marks that grow.
use Rattle.std.proofs.Common.{◌≡◌, ℕ, ◌+◌, ◌≤◌, Bool, true, false, not, cond, refl, sym, ◌∙◌, ap, subst, arith, List, [], ◌∷◌, ◌++◌, length, length-append, ◌==◌, ◌||◌, inl, inr}
use Rattle.std.specs.Prelude.{Contains, count_by}
use Rattle.std.proofs.lemmas.Bool.{both_ways, eq-eqb, eqb-true, or_cases, or_left, or_right}
use Rattle.std.proofs.lemmas.List.Sums.{sum_by-cons}
use Rattle.gfx_model.specs.Checks.{is_among}
use Rattle.gfx_model.specs.Views.{View}
use Rattle.gfx_lean_law.proofs.Contained.{contains_before, contains_behind, contains_here, contains_one, contains_split}
use Rattle.gfx_needed.specs.NeededIds.{Marks, is_marked, is_there}
use Rattle.gfx_needed.specs.declared.needed.NeededIds.{NeededIds}

-- some ids, and then others
pub marks_then : (v : View) (xs ys : List ℕ) (a b c : NeededIds) → Marks v xs a b → Marks v ys b c → Marks v (xs ++ ys) a c
marks_then v xs ys a b c m n = record {
  stays = λ x e. n.stays x (m.stays x e);
  all = λ x h live. elim (contains_split xs ys x h) [ inl h ↦ n.stays x (m.all x h live) | inr h ↦ n.all x h live ];
  only = λ x e. elim (n.only x e) [
    | inl e ↦ elim (m.only x e) [ inl e ↦ inl e | inr h ↦ inr (contains_before xs ys x h.0, h.1) ]
    | inr h ↦ inr (contains_behind xs ys x h.0, h.1)
  ];
  waits = λ x h. n.waits x (m.waits x h);
  added = λ x e. elim (n.added x e) [
    | inl e ↦ elim (m.added x e) [ inl e ↦ inl e | inr h ↦ inr (n.waits x h) ]
    | inr h ↦ inr h
  ];
  pending = λ x h. elim (n.pending x h) [
    | inl h ↦ elim (m.pending x h) [ inl h ↦ inl h | inr e ↦ inr (n.stays x e) ]
    | inr e ↦ inr e
  ];
  less = let one = m.less in let two = n.less in omega (arith, one, two);
}

-- ---- one id

abbrev one : Bool → ℕ
one t = cond t 1 0

-- a test that holds of fewer, and no longer of one
module _ (p q : ℕ → Bool) (x : ℕ) (on : p x ≡ true) (off : q x ≡ false) (fewer : (y : ℕ) → q y ≡ true → p y ≡ true) where
  counts : (y m n : ℕ) → m ≤ n → one (q y) + m ≤ one (p y) + n
  counts y m n more = by (q y) (p y) refl refl
    where
      by : (a b : Bool) → q y ≡ a → p y ≡ b → one (q y) + m ≤ one (p y) + n
      by true true is js = let a = ap one is in let b = ap one js in omega (arith, more, a, b)
      by true false is js = absurd (both_ways (p y) js (fewer y is))
      by false b is js = let a = ap one is in omega (arith, more, a)

  at_most : (ys : List ℕ) → count_by q ys ≤ count_by p ys
  at_most [] = omega arith
  at_most (y ∷ ys) =
      let a = sum_by-cons (λ x. one (q x)) y ys in
      let b = sum_by-cons (λ x. one (p x)) y ys in
      let more = counts y (count_by q ys) (count_by p ys) (at_most ys) in
      omega (arith, a, b, more)

  count_less : (ys : List ℕ) → is_among x ys ≡ true → count_by q ys + 1 ≤ count_by p ys
  count_less [] there = absurd (cc)
  count_less (y ∷ ys) there =
      let a = sum_by-cons (λ x. one (q x)) y ys in
      let b = sum_by-cons (λ x. one (p x)) y ys in
      let more = by (y == x) refl (count_less ys) in
      omega (arith, a, b, more)
    where
      by : (s : Bool) → (y == x) ≡ s → (is_among x ys ≡ true → count_by q ys + 1 ≤ count_by p ys) → one (q y) + count_by q ys + 1 ≤ one (p y) + count_by p ys
      by true same later =
          let here = eqb-true y x same in
          let low : one (q y) ≡ 0 = ap one (ap q here ∙ off) in
          let high : one (p y) ≡ 1 = ap one (ap p here ∙ on) in
          let more = at_most ys in
          omega (arith, low, high, more)
      by false same later =
          let more = counts y (count_by q ys + 1) (count_by p ys) (later (sym (ap (λ t. t || is_among x ys) same) ∙ there)) in
          omega (arith, more)

-- a live id that had no mark
pub marks_one : (v : View) (x : ℕ) (old new : NeededIds) → is_marked old x ≡ false → is_there v x ≡ true → is_among x v.ids ≡ true →
    ((y : ℕ) → is_marked new y ≡ (x == y || is_marked old y)) → new.pending.items ≡ old.pending.items ++ x ∷ [] → Marks v (x ∷ []) old new
marks_one v x old new off live listed marks pending = record {
  stays = λ y e. marks y ∙ or_right (x == y) (is_marked old y) e;
  all = λ y c there. marked y (contains_one x y c);
  only = λ y e. elim (or_cases (x == y) (is_marked old y) (sym (marks y) ∙ e)) [
    | inl same ↦ inr (single y (eqb-true x y same), ap (is_there v) (sym (eqb-true x y same)) ∙ live)
    | inr e ↦ inl e
  ];
  waits = λ y c. subst (λ l. Contains l y) (sym pending) (contains_before old.pending.items (x ∷ []) y c);
  added = λ y e. elim (or_cases (x == y) (is_marked old y) (sym (marks y) ∙ e)) [
    | inl same ↦ inr (subst (λ l. Contains l y) (sym pending) (contains_behind old.pending.items (x ∷ []) y (single y (eqb-true x y same))))
    | inr e ↦ inl e
  ];
  pending = λ y c. elim (contains_split old.pending.items (x ∷ []) y (subst (λ l. Contains l y) pending c)) [
    | inl c ↦ inl c
    | inr c ↦ inr (marked y (contains_one x y c))
  ];
  less =
      let fewer = count_less (λ y. not (is_marked old y)) (λ y. not (is_marked new y)) x (ap not off) (ap not (marked x refl)) gone v.ids listed in
      let longer = ap length pending ∙ length-append old.pending.items (x ∷ []) in
      omega (arith, fewer, longer);
}
  where
    single : (y : ℕ) → x ≡ y → Contains (x ∷ []) y
    single y same = subst (Contains (x ∷ [])) same (contains_here x [])

    marked : (y : ℕ) → x ≡ y → is_marked new y ≡ true
    marked y same = marks y ∙ or_left (x == y) (is_marked old y) (eq-eqb x y same)

    gone : (y : ℕ) → not (is_marked new y) ≡ true → not (is_marked old y) ≡ true
    gone y e = by (is_marked old y) refl
      where
        by : (t : Bool) → is_marked old y ≡ t → not (is_marked old y) ≡ true
        by true is = absurd (both_ways (not (is_marked new y)) (ap not (marks y ∙ or_right (x == y) (is_marked old y) is)) e)
        by false is = ap not is
