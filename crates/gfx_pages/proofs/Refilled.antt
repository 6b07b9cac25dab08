-- The fills of bytes, written over zeros, give them back.
use Rattle.std.proofs.Common.{◌≡◌, ℕ, zero, suc, ◌+◌, ◌-◌, ◌*◌, ◌/◌, ◌<◌, ◌≤◌, ◌⊎◌, inl, inr, List, [], ◌∷◌, ◌++◌, Option, Some, None, length, take, drop, min, get_or, slice_range, replicate, refl, ap, sym, subst, ◌∙◌, arith}
use Rattle.std.specs.Prelude.{All}
use Rattle.std.specs.List.{AllByRecursion, filter_map, range_with_len, cons_option}
use Rattle.std.proofs.Math.Nat.{eq-zero-or-pos}
use Rattle.std.proofs.lemmas.Bool.{cases_lt}
use Rattle.std.proofs.lemmas.List.{same_lists, length-replicate, get_or-replicate, get_or_append_left, get_or-append-add, get_or_default, get_or-take, get_or-drop, get_or-append_right, append_assoc, length-take-le, length-append, length-drop}
use Rattle.std.proofs.lemmas.List.Edits.{length-between, get_or-between}
use Rattle.gfx_model.specs.Section.{nonzero}
use Rattle.gfx_pages.specs.declared.bytes.Span.{Span}
use Rattle.gfx_pages.specs.Lists.{overwrite}
use Rattle.gfx_pages.specs.Fills.{refilled, IsSpanBelow, FillsGive}
use Rattle.gfx_pages.proofs.Sized.{span_of, page_fill, fills_of, fills_are}
use Rattle.gfx_pages.proofs.Scans.{HasSpan, has_span, span_is}

abbrev pub IsCovered : ℕ → Span → Type 0
IsCovered i span = (span.at ≤ i) × (i < span.at + span.length)

abbrev pub SomeCovers : ℕ → List Span → Type 0
SomeCovers i [] = ⊥
SomeCovers i (span ∷ spans) = IsCovered i span ⊎ SomeCovers i spans

-- ---- one put

length-part : (bytes : List ℕ) (span : Span) → span.at + span.length ≤ length bytes → length (slice_range bytes span.at (span.at + span.length)) ≡ span.length
length-part bytes span h = length-between bytes span.at (span.at + span.length) h ∙ omega arith

put_length : (bytes into : List ℕ) (span : Span) → length into ≡ length bytes → span.at + span.length ≤ length bytes
    → length (overwrite into span.at (slice_range bytes span.at (span.at + span.length))) ≡ length into
put_length bytes into span e h =
    let new = slice_range bytes span.at (span.at + span.length) in
    let l = length-part bytes span h in
    length-append (take span.at into ++ new) (drop (span.at + length new) into)
    ∙ ap (λ n. n + length (drop (span.at + length new) into)) (length-append (take span.at into) new)
    ∙ omega (arith, length-take-le span.at into (omega arith), length-drop (span.at + length new) into)

put_covered : (bytes into : List ℕ) (span : Span) (i : ℕ) → length into ≡ length bytes → span.at + span.length ≤ length bytes → IsCovered i span
    → get_or (overwrite into span.at (slice_range bytes span.at (span.at + span.length))) i 0 ≡ get_or bytes i 0
put_covered bytes into span i e h c =
    let low = c.0 in let high = c.1 in
    let new = slice_range bytes span.at (span.at + span.length) in
    let l = length-part bytes span h in
    let t = length-take-le span.at into (omega arith) in
    let g : span.at + (i - span.at) ≡ i = omega arith in
    ap (λ x. get_or x i 0) (append_assoc (take span.at into) new (drop (span.at + length new) into))
    ∙ ap (λ j. get_or (take span.at into ++ (new ++ drop (span.at + length new) into)) j 0) (sym g ∙ ap (λ j. j + (i - span.at)) (sym t))
    ∙ get_or-append-add (take span.at into) (new ++ drop (span.at + length new) into) (i - span.at) 0
    ∙ get_or_append_left new (drop (span.at + length new) into) 0 (i - span.at) (omega arith)
    ∙ get_or-between bytes span.at (span.at + span.length) (i - span.at) 0 (omega arith)
    ∙ ap (λ j. get_or bytes j 0) g

put_beside : (bytes into : List ℕ) (span : Span) (i : ℕ) → length into ≡ length bytes → span.at + span.length ≤ length bytes → (i < span.at) ⊎ (span.at + span.length ≤ i)
    → get_or (overwrite into span.at (slice_range bytes span.at (span.at + span.length))) i 0 ≡ get_or into i 0
put_beside bytes into span i e h c = by c
  where
    by : (i < span.at) ⊎ (span.at + span.length ≤ i) → get_or (overwrite into span.at (slice_range bytes span.at (span.at + span.length))) i 0 ≡ get_or into i 0
    by (inl before) =
        let new = slice_range bytes span.at (span.at + span.length) in
        let t = length-take-le span.at into (omega arith) in
        ap (λ x. get_or x i 0) (append_assoc (take span.at into) new (drop (span.at + length new) into))
        ∙ get_or_append_left (take span.at into) (new ++ drop (span.at + length new) into) 0 i (omega arith)
        ∙ get_or-take span.at into i 0 before
    by (inr after) =
        let new = slice_range bytes span.at (span.at + span.length) in
        let l = length-part bytes span h in
        let t = length-append (take span.at into) new ∙ ap (λ n. n + length new) (length-take-le span.at into (omega arith)) in
        let g : span.at + length new + (i - (span.at + length new)) ≡ i = omega arith in
        get_or-append_right (take span.at into ++ new) (drop (span.at + length new) into) (span.at + length new) i 0 t (omega arith)
        ∙ get_or-drop (span.at + length new) into (i - (span.at + length new)) 0
        ∙ ap (λ j. get_or into j 0) g

-- what is right stays right
put_right : (bytes into : List ℕ) (span : Span) (i : ℕ) → length into ≡ length bytes → span.at + span.length ≤ length bytes → get_or into i 0 ≡ get_or bytes i 0
    → get_or (overwrite into span.at (slice_range bytes span.at (span.at + span.length))) i 0 ≡ get_or bytes i 0
put_right bytes into span i e h right =
    elim (cases_lt i span.at) [
      | inl l ↦ put_beside bytes into span i e h (inl l) ∙ right
      | inr l ↦
          elim (cases_lt i (span.at + span.length)) [
            | inl m ↦ put_covered bytes into span i e h (l, m)
            | inr m ↦ put_beside bytes into span i e h (inr m) ∙ right
          ]
    ]

-- ---- all puts

length-refilled : (bytes : List ℕ) (spans : List Span) (into : List ℕ) → AllByRecursion (IsSpanBelow (length bytes)) spans → length into ≡ length bytes
    → length (refilled bytes spans into) ≡ length bytes
length-refilled bytes [] into all e = e
length-refilled bytes (span ∷ spans) into all e =
    length-refilled bytes spans _ all.1 (put_length bytes into span e all.0.1 ∙ e)

refilled_right : (bytes : List ℕ) (spans : List Span) (into : List ℕ) (i : ℕ) → AllByRecursion (IsSpanBelow (length bytes)) spans → length into ≡ length bytes
    → get_or into i 0 ≡ get_or bytes i 0 → get_or (refilled bytes spans into) i 0 ≡ get_or bytes i 0
refilled_right bytes [] into i all e right = right
refilled_right bytes (span ∷ spans) into i all e right =
    refilled_right bytes spans _ i all.1 (put_length bytes into span e all.0.1 ∙ e) (put_right bytes into span i e all.0.1 right)

refilled_covered : (bytes : List ℕ) (spans : List Span) (into : List ℕ) (i : ℕ) → AllByRecursion (IsSpanBelow (length bytes)) spans → length into ≡ length bytes
    → SomeCovers i spans → get_or (refilled bytes spans into) i 0 ≡ get_or bytes i 0
refilled_covered bytes [] into i all e c = absurd c
refilled_covered bytes (span ∷ spans) into i all e (inl c) =
    refilled_right bytes spans _ i all.1 (put_length bytes into span e all.0.1 ∙ e) (put_covered bytes into span i e all.0.1 c)
refilled_covered bytes (span ∷ spans) into i all e (inr c) =
    refilled_covered bytes spans _ i all.1 (put_length bytes into span e all.0.1 ∙ e) c

-- ---- the fills

fill_below : (s : ℕ) (f : ℕ → ℕ) (n k : ℕ) (span : Span) → page_fill s f n k ≡ Some span → IsSpanBelow n span
fill_below s f n k span e =
    let is = span_is f (k * s) (min s (n - k * s)) span e in
    let some = is.some in let low = is.low in let high = is.high in
    (some, omega arith)

all_of_filter_map : (P : Span → Type 0) (g : ℕ → Option Span) → ((k : ℕ) (span : Span) → g k ≡ Some span → P span) → (ks : List ℕ) → AllByRecursion P (filter_map g ks)
all_of_filter_map P g each [] = tt
all_of_filter_map P g each (k ∷ ks) = by (g k) refl (all_of_filter_map P g each ks)
  where
    by : (o : Option Span) → g k ≡ o → AllByRecursion P (filter_map g ks) → AllByRecursion P (cons_option o (filter_map g ks))
    by None e r = r
    by (Some span) e r = (each k span e, r)

covered_in : (i : ℕ) (g : ℕ → Option Span) (k : ℕ) (span : Span) → g k ≡ Some span → IsCovered i span → (m a : ℕ) → a ≤ k → k < a + m
    → SomeCovers i (filter_map g (range_with_len a m))
covered_in i g k span e c zero a low high = absurd (omega arith)
covered_in i g k span e c (suc m) a low high =
    elim (cases_lt a k) [
      | inl l ↦ later (g a) (covered_in i g k span e c m (a + 1) (omega arith) (omega arith))
      | inr l ↦ let same : a ≡ k = omega arith in here (g a) (ap g same ∙ e)
    ]
  where
    later : (o : Option Span) → SomeCovers i (filter_map g (range_with_len (a + 1) m)) → SomeCovers i (cons_option o (filter_map g (range_with_len (a + 1) m)))
    later None r = r
    later (Some x) r = inr r

    here : (o : Option Span) → o ≡ Some span → SomeCovers i (cons_option o (filter_map g (range_with_len (a + 1) m)))
    here None q = absurd (cc)
    here (Some x) q = let same : x ≡ span = cc in inl (rw same c)

-- a page with a byte that isn't zero has a fill that covers it
page_covers : (f : ℕ → ℕ) (at n i : ℕ) → at ≤ i → i < at + n → 0 < f i → (span : Span) × (span_of (nonzero f at n) ≡ Some span) × IsCovered i span
page_covers f at n i low high p = by (has_span f n at)
  where
    by : HasSpan f at n (span_of (nonzero f at n)) → (span : Span) × (span_of (nonzero f at n) ≡ Some span) × IsCovered i span
    by (inl none) = absurd (let e = none.1 i low high in omega arith)
    by (inr found) = (found.0, found.1, found.2.all i low high p)

fills_cover : (s : ℕ) (f : ℕ → ℕ) (n i : ℕ) → 0 < s → i < n → 0 < f i → SomeCovers i (fills_of s f n)
fills_cover s f n i z below p =
    let k = i / s in
    let start : k * s ≤ i = grind arith in
    let end : i < k * s + s = grind arith in
    let found = page_covers f (k * s) (min s (n - k * s)) i start (omega arith) p in
    let last : k < (n + (s - 1)) / s = grind arith in
    covered_in i (page_fill s f n) k found.0 found.1 found.2 ((n + (s - 1)) / s) 0 (omega arith) (omega arith)

fills_below : (s : ℕ) (f : ℕ → ℕ) (n : ℕ) → AllByRecursion (IsSpanBelow n) (fills_of s f n)
fills_below s f n = all_of_filter_map (IsSpanBelow n) (page_fill s f n) (fill_below s f n) (range_with_len 0 ((n + (s - 1)) / s))

refilled_same : (s : ℕ) (bytes : List ℕ) → 0 < s → refilled bytes (fills_of s (λ i. get_or bytes i 0) (length bytes)) (replicate (length bytes) 0) ≡ bytes
refilled_same s bytes z =
    let n = length bytes in
    let spans = fills_of s (λ i. get_or bytes i 0) n in
    let all : AllByRecursion (IsSpanBelow n) spans = fills_below s (λ i. get_or bytes i 0) n in
    let l : length (replicate n 0) ≡ n = length-replicate n 0 in
    let m : length (refilled bytes spans (replicate n 0)) ≡ n = length-refilled bytes spans (replicate n 0) all l in
    same_lists _ _ m
    (λ i d h.
    let b : i < n = omega arith in
    get_or_default (refilled bytes spans (replicate n 0)) i d 0 h
    ∙ elim (eq-zero-or-pos (get_or bytes i 0)) [
      | inl e ↦ refilled_right bytes spans (replicate n 0) i all l (get_or-replicate n i 0 0 b ∙ sym e)
      | inr p ↦ refilled_covered bytes spans (replicate n 0) i all l (fills_cover s (λ i. get_or bytes i 0) n i z b p)
    ]
    ∙ get_or_default bytes i 0 d b)

all_by_index : (P : Span → Type 0) (xs : List Span) → AllByRecursion P xs → (k : ℕ) (d : Span) → k < length xs → P (get_or xs k d)
all_by_index P [] all k d h = absurd (omega arith)
all_by_index P (x ∷ xs) all zero d h = all.0
all_by_index P (x ∷ xs) all (suc k) d h = all_by_index P xs all.1 k d (omega arith)

pub fills_give : (bytes : List ℕ) → FillsGive bytes
fills_give bytes = record {
  spans = subst (λ spans. All (IsSpanBelow (length bytes)) spans) (sym (fills_are bytes))
      (all_by_index (IsSpanBelow (length bytes)) (fills_of 65536 (λ i. get_or bytes i 0) (length bytes)) (fills_below 65536 (λ i. get_or bytes i 0) (length bytes)));
  same = ap (λ spans. refilled bytes spans (replicate (length bytes) 0)) (fills_are bytes) ∙ refilled_same 65536 bytes (omega arith);
}
