-- The fills of bytes, written over zeros, give them back.
use Rattle.std.proofs.Common.{◌≡◌, ℕ, zero, suc, ◌+◌, ◌-◌, ◌*◌, ◌/◌, ◌<◌, ◌≤◌, Bool, true, false, refl, sym, ◌∙◌, ap, subst, List, [], ◌∷◌, map, filter_map, min, length, slice_index, Option, Some, None, cond, not, ◌==◌, ◌&&◌, nat_le, arith, ◌⊎◌, inl, inr}
use Rattle.std.specs.List.{AllByRecursion, range_with_len, cons_option}
use Rattle.std.proofs.lemmas.List.FromFn.{get_or-map-range_with_len, length-map-range_with_len}
use Rattle.std.proofs.lemmas.Bool.{eqb-true, eqb-false, eq-eqb, and_from, and_parts, or_cases, or_left, or_right, le-leb, lt-ltb, leb-true, ltb-true, cond-true, not_from_false}
use Rattle.gfx_types.specs.declared.op.Place.{Place}
use Rattle.gfx_types.specs.declared.op.Place.TheVariants as place
use Rattle.gfx_model.specs.Steps.{Change}
use Rattle.gfx_model.specs.Steps.Change.{put}
use Rattle.gfx_model.specs.Bytes.{byte, same_place, covers_byte}
use Rattle.gfx_model.specs.Limits.{page_size}
use Rattle.gfx_model.specs.Section.{Span, last_of, span_of, nonzero, page_fill, fills_of}
use Rattle.gfx_model.specs.Checks.{is_among}
use Rattle.gfx_laws.specs.Lawful.{IsRising}
use Rattle.gfx_laws.specs.Laws.{filled, IsSpanBelow, FillsGive}
use Rattle.gfx_laws.proofs.Cases.{by_test}
use Rattle.gfx_laws.proofs.Lists.{all_range}
use Rattle.gfx_laws.proofs.LawfulIds.{rising_filter, among_filter}
use Rattle.gfx_laws.proofs.Rising.{above_each}

-- ---- puts

same_place_refl : (p : Place) → same_place p p ≡ true
same_place_refl (place.Memory m) = eq-eqb m m refl
same_place_refl (place.Image x) = eq-eqb x x refl

-- a span has an index
abbrev pub IsCovered : ℕ → Span → Type 0
IsCovered i s = (s.at ≤ i) × (i < s.at + s.length)

abbrev pub SomeCovers : ℕ → List Span → Type 0
SomeCovers i [] = ⊥
SomeCovers i (s ∷ ss) = IsCovered i s ⊎ SomeCovers i ss

abbrev pub written : Place → (ℕ → ℕ) → Span → Change
written at f s = put at s.at (map f (range_with_len s.at s.length))

-- what a put writes at an index that it covers
put_covered : (at : Place) (f : ℕ → ℕ) (s : Span) (es : List Change) (i : ℕ) → IsCovered i s → byte (written at f s ∷ es) at i ≡ f i
unfolding byte
put_covered at f s es i c =
    let low = c.0 in let high = c.1 in
    let n = length-map-range_with_len f s.at s.length in
    let covers : covers_byte at s.at (length (map f (range_with_len s.at s.length))) at i ≡ true =
    and_from (same_place at at && nat_le s.at i) _ (and_from (same_place at at) (nat_le s.at i) (same_place_refl at) (le-leb s.at i low))
    (lt-ltb i (s.at + length (map f (range_with_len s.at s.length))) (omega (arith, high, n))) in
    cond-true _ (slice_index (map f (range_with_len s.at s.length)) (i - s.at)) (byte es at i) covers
    ∙ get_or-map-range_with_len f s.at s.length (i - s.at) i 0 (omega (arith, low, high)) (omega (arith, low))

-- what is right stays right
put_right : (at : Place) (f : ℕ → ℕ) (s : Span) (es : List Change) (i : ℕ) → byte es at i ≡ f i → byte (written at f s ∷ es) at i ≡ f i
unfolding byte
put_right at f s es i right = by (covers_byte at s.at (length (map f (range_with_len s.at s.length))) at i) refl
  where
    n : length (map f (range_with_len s.at s.length)) ≡ s.length
    n = length-map-range_with_len f s.at s.length

    by : (t : Bool) → covers_byte at s.at (length (map f (range_with_len s.at s.length))) at i ≡ t →
        cond t (slice_index (map f (range_with_len s.at s.length)) (i - s.at)) (byte es at i) ≡ f i
    by false e = right
    by true e =
        let parts = and_parts (same_place at at && nat_le s.at i) _ e in
        let low = leb-true s.at i (and_parts (same_place at at) (nat_le s.at i) parts.0).1 in
        let high = ltb-true i (s.at + length (map f (range_with_len s.at s.length))) parts.1 in
        get_or-map-range_with_len f s.at s.length (i - s.at) i 0 (omega (arith, low, high, n)) (omega (arith, low))

filled_right : (at : Place) (f : ℕ → ℕ) (ss : List Span) (es : List Change) (i : ℕ) → byte es at i ≡ f i → byte (filled at f ss es) at i ≡ f i
filled_right at f [] es i right = right
filled_right at f (s ∷ ss) es i right = filled_right at f ss (written at f s ∷ es) i (put_right at f s es i right)

filled_covered : (at : Place) (f : ℕ → ℕ) (ss : List Span) (es : List Change) (i : ℕ) → SomeCovers i ss → byte (filled at f ss es) at i ≡ f i
filled_covered at f [] es i c = absurd c
filled_covered at f (s ∷ ss) es i (inl c) = filled_right at f ss (written at f s ∷ es) i (put_covered at f s es i c)
filled_covered at f (s ∷ ss) es i (inr c) = filled_covered at f ss (written at f s ∷ es) i c

-- ---- spans

-- the last of a rising list
last_least : (x : ℕ) (xs : List ℕ) → IsRising (x ∷ xs) → (i : ℕ) → is_among i (x ∷ xs) ≡ true → i ≤ last_of x xs
last_least x [] r i m = by (or_cases (x == i) false m)
  where
    by : ((x == i) ≡ true) ⊎ (false ≡ true) → i ≤ x
    by (inl same) = let e = eqb-true x i same in omega (arith, e)
    by (inr e) = absurd (cc)
last_least x (y ∷ ys) r i m = by (or_cases (x == i) (is_among i (y ∷ ys)) m) (last_least y ys r.1)
  where
    by : ((x == i) ≡ true) ⊎ (is_among i (y ∷ ys) ≡ true) → ((j : ℕ) → is_among j (y ∷ ys) ≡ true → j ≤ last_of y ys) → i ≤ last_of y ys
    by (inr rest) more = more i rest
    by (inl same) more =
        let e = eqb-true x i same in let low = r.0.0 in
        let high = more y (or_left (y == y) (is_among y ys) (eq-eqb y y refl)) in
        omega (arith, e, low, high)

last_among : (x : ℕ) (xs : List ℕ) → is_among (last_of x xs) (x ∷ xs) ≡ true
last_among x [] = or_left (x == x) false (eq-eqb x x refl)
last_among x (y ∷ ys) = or_right (x == last_of y ys) (is_among (last_of y ys) (y ∷ ys)) (last_among y ys)

first_least : (x : ℕ) (xs : List ℕ) → IsRising (x ∷ xs) → (i : ℕ) → is_among i (x ∷ xs) ≡ true → x ≤ i
first_least x xs r i m = by (or_cases (x == i) (is_among i xs) m)
  where
    by : ((x == i) ≡ true) ⊎ (is_among i xs ≡ true) → x ≤ i
    by (inl same) = let e = eqb-true x i same in omega (arith, e)
    by (inr rest) = let low = above_each x i xs r.0 rest in omega (arith, low)

-- the span of offsets that are among a rising list has them all, and no more than they reach
pub record IsSpanOf (xs : List ℕ) (s : Span) : Type 0 where
  pub covers : (i : ℕ) → is_among i xs ≡ true → IsCovered i s
  pub positive : 0 < s.length
  pub last : (i : ℕ) × (is_among i xs ≡ true) × (s.at + s.length ≡ i + 1)

span_is : (x : ℕ) (xs : List ℕ) → IsRising (x ∷ xs) → IsSpanOf (x ∷ xs) (record { at = x; length = last_of x xs + 1 - x })
span_is x xs r =
    let end = first_least x xs r (last_of x xs) (last_among x xs) in
    record {
      covers = λ i m. let low = first_least x xs r i m in let high = last_least x xs r i m in (low, omega (arith, low, high));
      positive = omega (arith, end);
      last = (last_of x xs, last_among x xs, omega (arith, end));
    }

-- ---- ranges

pub range_among : (a n i : ℕ) → a ≤ i → i < a + n → is_among i (range_with_len a n) ≡ true
range_among a zero i low high = absurd (omega (arith, low, high))
range_among a (suc n) i low high = by_test _ (a == i)
    (λ same. or_left (a == i) (is_among i (range_with_len (a + 1) n)) same)
    (λ other. let apart = eqb-false a i other in or_right (a == i) (is_among i (range_with_len (a + 1) n)) (range_among (a + 1) n i (omega arith) (omega arith)))

among_range : (a n i : ℕ) → is_among i (range_with_len a n) ≡ true → (a ≤ i) × (i < a + n)
among_range a zero i m = absurd (cc)
among_range a (suc n) i m = by (or_cases (a == i) (is_among i (range_with_len (a + 1) n)) m) (among_range (a + 1) n i)
  where
    by : ((a == i) ≡ true) ⊎ (is_among i (range_with_len (a + 1) n) ≡ true) → (is_among i (range_with_len (a + 1) n) ≡ true → (a + 1 ≤ i) × (i < a + 1 + n)) → (a ≤ i) × (i < a + suc n)
    by (inl same) more = let e = eqb-true a i same in (omega (arith, e), omega (arith, e))
    by (inr rest) more = let both = more rest in let low = both.0 in let high = both.1 in (omega (arith, low), omega (arith, high))

range_rising : (a n : ℕ) → IsRising (range_with_len a n)
range_rising a zero = tt
range_rising a (suc n) = (all_range (λ y. a < y) (a + 1) n (λ k low high. omega (arith, low)), range_rising (a + 1) n)

-- ---- pages

pub nonzero_among : (f : ℕ → ℕ) (at n i : ℕ) → is_among i (nonzero f at n) ≡ is_among i (range_with_len at n) && not (f i == 0)
nonzero_among f at n i = among_filter (λ i. not (f i == 0)) i (range_with_len at n)

-- the fill of a page, where there is one, is a span of its offsets at which a byte isn't 0
page_span : (f : ℕ → ℕ) (at n : ℕ) (s : Span) → span_of (nonzero f at n) ≡ Some s → IsSpanOf (nonzero f at n) s
page_span f at n s e = by (nonzero f at n) (rising_filter (λ i. not (f i == 0)) (range_with_len at n) (range_rising at n)) e
  where
    by : (xs : List ℕ) → IsRising xs → span_of xs ≡ Some s → IsSpanOf xs s
    by [] r e = absurd (cc)
    by (x ∷ xs) r e = subst (IsSpanOf (x ∷ xs)) (let same : record { at = x; length = last_of x xs + 1 - x } ≡ s = cc in same) (span_is x xs r)

span_below : (f : ℕ → ℕ) (n k : ℕ) (s : Span) → page_fill f n k ≡ Some s → IsSpanBelow n s
span_below f n k s e =
    let at = k * page_size in
    let size = min page_size (n - at) in
    let is = page_span f at size s e in
    let inside = among_range at size (is.last).0 (and_parts (is_among (is.last).0 (range_with_len at size)) _ (sym (nonzero_among f at size (is.last).0) ∙ (is.last).1)).0 in
    let end = (is.last).2 in let high = inside.1 in let low = inside.0 in
    (is.positive, omega (arith, end, high, low))

-- the items that a filter of a list gives
filter_map_all : (P : Span → Type 0) (g : ℕ → Option Span) → ((k : ℕ) (s : Span) → g k ≡ Some s → P s) → (ks : List ℕ) → AllByRecursion P (filter_map g ks)
filter_map_all P g each [] = tt
filter_map_all P g each (k ∷ ks) = by (g k) refl (filter_map_all P g each ks)
  where
    by : (o : Option Span) → g k ≡ o → AllByRecursion P (filter_map g ks) → AllByRecursion P (cons_option o (filter_map g ks))
    by None e r = r
    by (Some s) e r = (each k s e, r)

filter_map_some : (i : ℕ) (g : ℕ → Option Span) (k : ℕ) (s : Span) → g k ≡ Some s → IsCovered i s → (ks : List ℕ) → is_among k ks ≡ true → SomeCovers i (filter_map g ks)
filter_map_some i g k s e c [] m = absurd (cc)
filter_map_some i g k s e c (j ∷ ks) m = by (or_cases (j == k) (is_among k ks) m) (filter_map_some i g k s e c ks)
  where
    later : (o : Option Span) → SomeCovers i (filter_map g ks) → SomeCovers i (cons_option o (filter_map g ks))
    later None r = r
    later (Some s) r = inr r

    by : ((j == k) ≡ true) ⊎ (is_among k ks ≡ true) → (is_among k ks ≡ true → SomeCovers i (filter_map g ks)) → SomeCovers i (cons_option (g j) (filter_map g ks))
    by (inl same) more = subst (λ o. SomeCovers i (cons_option o (filter_map g ks))) (sym (ap g (eqb-true j k same) ∙ e)) (inl c)
    by (inr rest) more = later (g j) (more rest)

-- a page with a byte that isn't 0 has a fill that covers it
pub page_covers : (f : ℕ → ℕ) (at n i : ℕ) → is_among i (nonzero f at n) ≡ true → (s : Span) × (span_of (nonzero f at n) ≡ Some s) × IsCovered i s
page_covers f at n i m = by (nonzero f at n) refl m
  where
    by : (xs : List ℕ) → nonzero f at n ≡ xs → is_among i xs ≡ true → (s : Span) × (span_of (nonzero f at n) ≡ Some s) × IsCovered i s
    by [] is m = absurd (cc)
    by (x ∷ xs) is m =
        let s : Span = record { at = x; length = last_of x xs + 1 - x } in
        let e : span_of (nonzero f at n) ≡ Some s = ap span_of is in
        (s, e, (page_span f at n s e).covers i (subst (λ l. is_among i l ≡ true) (sym is) m))

fills_cover : (f : ℕ → ℕ) (n i : ℕ) → i < n → (f i == 0) ≡ false → SomeCovers i (fills_of f n)
unfolding fills_of
fills_cover f n i below other =
    let k = i / page_size in
    let at = k * page_size in
    let size = min page_size (n - at) in
    let there : is_among i (nonzero f at size) ≡ true =
    nonzero_among f at size i ∙ and_from (is_among i (range_with_len at size)) (not (f i == 0)) (range_among at size i (omega arith) (omega (arith, below))) (not_from_false (f i == 0) other) in
    let found = page_covers f at size i there in
    filter_map_some i (page_fill f n) k found.0 found.1 found.2 (range_with_len 0 ((n + (page_size - 1)) / page_size))
    (range_among 0 ((n + (page_size - 1)) / page_size) k (omega arith) (omega (arith, below)))

pub fills_give : (f : ℕ → ℕ) (n : ℕ) → FillsGive f n
unfolding fills_of
fills_give f n = record {
  spans = filter_map_all (IsSpanBelow n) (page_fill f n) (span_below f n) (range_with_len 0 ((n + (page_size - 1)) / page_size));
  bytes = λ at es i below zero. by_test _ (f i == 0)
      (λ none. filled_right at f (fills_of f n) es i (zero ∙ sym (eqb-true (f i) 0 none)))
      (λ some. filled_covered at f (fills_of f n) es i (fills_cover f n i below some));
}
