-- Sets told by the places where they change: what holds goes on up to the next change.
use Rattle.std.proofs.Common.{◌≡◌, ℕ, zero, suc, ◌<◌, ◌≤◌, nat_le, nat_lt, Bool, true, false, ◌==◌, ◌&&◌, if◌then◌else◌, cond, Option, Some, None, unwrap_or, refl, sym, ◌∙◌, ap, arith}
use Rattle.std.specs.Ordering.{nat_cmp}
use Rattle.std.specs.BTreeMap.{is_at}
use Rattle.std.proofs.lemmas.Bool.Decides.{nat_tests}
use Rattle.gfx_asked.specs.Bounds.{at_last, earlier, with_range, IsSteady}

pub at_last_is : (f : ℕ → Option Bool) (j : ℕ) → at_last f j ≡ unwrap_or (f j) (earlier f j)
unfolding at_last
at_last_is f zero = refl
at_last_is f (suc j) = refl

pub no_change : (f : ℕ → Option Bool) (j : ℕ) → ((q : ℕ) → q ≤ j → f q ≡ None) → at_last f j ≡ false
unfolding at_last
no_change f zero none = ap (λ o. unwrap_or o false) (none zero (omega arith))
no_change f (suc j) none = ap (λ o. unwrap_or o (at_last f j)) (none (suc j) (omega arith)) ∙ no_change f j (λ q le. none q (omega (arith, le)))

-- what holds goes on where nothing changes
pub goes_on : (f : ℕ → Option Bool) (from j : ℕ) → from ≤ j → ((q : ℕ) → from < q → q ≤ j → f q ≡ None) → at_last f j ≡ at_last f from
unfolding at_last
goes_on f from zero low none = let is : zero ≡ from = omega (arith, low) in ap (at_last f) is
goes_on f from (suc j) low none = by (nat_le from j) refl (λ le. goes_on f from j le (λ q lt q_le. none q lt (omega (arith, q_le))))
  where
    by : (t : Bool) → nat_le from j ≡ t → (from ≤ j → at_last f j ≡ at_last f from) → at_last f (suc j) ≡ at_last f from
    by true e before =
        let le : from ≤ j = grind (arith, nat_tests) in
        ap (λ o. unwrap_or o (at_last f j)) (none (suc j) (omega (arith, le)) (omega arith)) ∙ before le
    by false e before = let is : suc j ≡ from = grind (arith, nat_tests) in ap (at_last f) is

pub changed_here : (f : ℕ → Option Bool) (j : ℕ) (v : Bool) → f j ≡ Some v → at_last f j ≡ v
changed_here f j v is = at_last_is f j ∙ ap (λ o. unwrap_or o (earlier f j)) is

pub last_change : (f : ℕ → Option Bool) (k j : ℕ) (v : Bool) → f k ≡ Some v → k ≤ j → ((q : ℕ) → k < q → q ≤ j → f q ≡ None) → at_last f j ≡ v
last_change f k j v is le none = goes_on f k j le none ∙ changed_here f k v is

-- the same changes up to a number
pub same_below : (f g : ℕ → Option Bool) (j : ℕ) → ((q : ℕ) → q ≤ j → g q ≡ f q) → at_last g j ≡ at_last f j
unfolding at_last
same_below f g zero same = ap (λ o. unwrap_or o false) (same zero (omega arith))
same_below f g (suc j) same =
    ap (λ o. unwrap_or o (at_last g j)) (same (suc j) (omega arith)) ∙ ap (unwrap_or (f (suc j))) (same_below f g j (λ q le. same q (omega (arith, le))))

pub earlier_same : (f g : ℕ → Option Bool) (a : ℕ) → ((q : ℕ) → q < a → g q ≡ f q) → earlier g a ≡ earlier f a
earlier_same f g zero same = refl
earlier_same f g (suc a) same = same_below f g a (λ q le. same q (omega (arith, le)))

-- and from a number on, where the two agree there
pub same_above : (f g : ℕ → Option Bool) (b j : ℕ) → at_last g b ≡ at_last f b → ((q : ℕ) → b < q → g q ≡ f q) → b ≤ j → at_last g j ≡ at_last f j
unfolding at_last
same_above f g b zero here same le = let is : b ≡ zero = omega (arith, le) in sym (ap (at_last g) is) ∙ here ∙ ap (at_last f) is
same_above f g b (suc j) here same le = by (nat_le b j) refl (same_above f g b j here same)
  where
    by : (t : Bool) → nat_le b j ≡ t → (b ≤ j → at_last g j ≡ at_last f j) → at_last g (suc j) ≡ at_last f (suc j)
    by true e before =
        let low : b ≤ j = grind (arith, nat_tests) in
        ap (λ o. unwrap_or o (at_last g j)) (same (suc j) (omega (arith, low))) ∙ ap (unwrap_or (f (suc j))) (before low)
    by false e before = let is : b ≡ suc j = grind (arith, nat_tests) in sym (ap (at_last g) is) ∙ here ∙ ap (at_last f) is

-- a change to what holds anyway
pub idle_change : (f g : ℕ → Option Bool) (b : ℕ) → g b ≡ Some (at_last f b) → ((q : ℕ) → (q == b) ≡ false → g q ≡ f q) → (j : ℕ) → at_last g j ≡ at_last f j
idle_change f g b here others j = by (nat_le b j) refl
  where
    by : (t : Bool) → nat_le b j ≡ t → at_last g j ≡ at_last f j
    by true e = same_above f g b j (changed_here g b (at_last f b) here) (λ q lt. others q (grind (arith, nat_tests))) (grind (arith, nat_tests))
    by false e = same_below f g j (λ q le. others q (grind (arith, nat_tests)))

-- the changes that put a range in or take it out
pub record Sets (f g : ℕ → Option Bool) (from to : ℕ) (held : Bool) : Type 0 where
  pub some : from < to
  pub below : (q : ℕ) → q < from → g q ≡ f q
  pub start : unwrap_or (g from) (earlier f from) ≡ held
  pub within : IsSteady g from to
  pub end : unwrap_or (g to) held ≡ at_last f to
  pub above : (q : ℕ) → to < q → g q ≡ f q

pub sets : (f g : ℕ → Option Bool) (from to : ℕ) (held : Bool) → Sets f g from to held → (j : ℕ) → at_last g j ≡ with_range (at_last f) from to held j
sets f g from to held s j = by (nat_le from j) (nat_lt j to) refl refl
  where
    starts : at_last g from ≡ held
    starts = at_last_is g from ∙ ap (unwrap_or (g from)) (earlier_same f g from s.below) ∙ s.start

    inside : (j : ℕ) → from ≤ j → j < to → at_last g j ≡ held
    inside j low high = goes_on g from j low (λ q lt le. s.within q lt (omega (arith, le, high))) ∙ starts

    last : (n : ℕ) → to ≡ n → earlier g n ≡ held
    last zero e = absurd (let some = s.some in omega (arith, some, e))
    last (suc n) e = let some = s.some in inside n (omega (arith, some, e)) (omega (arith, e))

    ends : at_last g to ≡ at_last f to
    ends = at_last_is g to ∙ ap (unwrap_or (g to)) (last to refl) ∙ s.end

    by : (t u : Bool) → nat_le from j ≡ t → nat_lt j to ≡ u → at_last g j ≡ (if t && u then held else at_last f j)
    by true true e h = inside j (grind (arith, nat_tests)) (grind (arith, nat_tests))
    by true false e h = same_above f g to j ends s.above (grind (arith, nat_tests))
    by false u e h = same_below f g j (λ q le. s.below q (grind (arith, nat_tests)))

-- another function that has this at one number
abbrev pub IsPut : (f g : ℕ → Option Bool) → ℕ → Option Bool → Type 0
IsPut f g k v = (q : ℕ) → g q ≡ cond (is_at (nat_cmp k) q) v (f q)

-- it differs at this number alone
abbrev pub DiffersAt : (f g : ℕ → Option Bool) → ℕ → Type 0
DiffersAt f g k = (q : ℕ) → (q == k) ≡ false → g q ≡ f q

pub idle_put : (f g : ℕ → Option Bool) (b : ℕ) (after : Bool) → after ≡ at_last f b → IsPut f g b (Some after) → (j : ℕ) → at_last g j ≡ at_last f j
idle_put f g b after is put =
    idle_change f g b (let here = put b in let some : Some after ≡ Some (at_last f b) = ap Some is in grind (arith, nat_tests, here, some)) (λ q apart. let there = put q in grind (arith, nat_tests, there, apart))

-- both ends are put in, what lies between is taken out, and so is an end that changes nothing
pub made : (f f1 f2 f3 f4 g : ℕ → Option Bool) (from to : ℕ) (held before after : Bool) → from < to → before ≡ earlier f from → after ≡ at_last f to
    → IsPut f f1 to (Some after) → IsPut f1 f2 from (Some held) → ((q : ℕ) → f3 q ≡ (if nat_lt from q && nat_lt q to then None else f2 q))
    → unwrap_or (f4 from) before ≡ held → DiffersAt f3 f4 from → unwrap_or (g to) held ≡ after → DiffersAt f4 g to → Sets f g from to held
made f f1 f2 f3 f4 g from to held before after some starts ends first second third here fourth there fifth = record {
  some = some;
  below = λ q lt.
      let a = first q in
      let b = second q in
      let c = third q in
      let d = fourth q (grind (arith, nat_tests)) in
      let e = fifth q (grind (arith, nat_tests)) in
      grind (arith, nat_tests, a, b, c, d, e);
  start = let e = fifth from (grind (arith, nat_tests)) in ap (λ o. unwrap_or o (earlier f from)) e ∙ ap (unwrap_or (f4 from)) (sym starts) ∙ here;
  within = λ q low high.
      let c = third q in
      let d = fourth q (grind (arith, nat_tests)) in
      let e = fifth q (grind (arith, nat_tests)) in
      grind (arith, nat_tests, c, d, e);
  end = there ∙ ends;
  above = λ q lt.
      let a = first q in
      let b = second q in
      let c = third q in
      let d = fourth q (grind (arith, nat_tests)) in
      let e = fifth q (grind (arith, nat_tests)) in
      grind (arith, nat_tests, a, b, c, d, e);
}
