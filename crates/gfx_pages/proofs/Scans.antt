-- The span of the places of a range at which bytes are not zero.
use Rattle.std.proofs.Common.{◌≡◌, ℕ, zero, suc, ◌+◌, ◌-◌, ◌<◌, ◌≤◌, cond, not, ◌⊎◌, inl, inr, List, ◌∷◌, Option, Some, None, refl, ap, sym, ◌∙◌, arith, get_or, slice_range}
use Rattle.std.proofs.Math.Nat.{eq-zero-or-pos}
use Rattle.std.proofs.lemmas.Bool.{cases_lt, eq-eqb, ne_eqb}
use Rattle.std.proofs.lemmas.List.Edits.{get_or-between}
use Rattle.gfx_model.specs.Section.{last_of, nonzero}
use Rattle.gfx_pages.specs.Used.{IsZero}
use Rattle.gfx_pages.specs.declared.bytes.Span.{Span}
use Rattle.gfx_pages.proofs.Sized.{span_of}

nonzero_past : (f : ℕ → ℕ) (at n : ℕ) → f at ≡ 0 → nonzero f at (suc n) ≡ nonzero f (at + 1) n
nonzero_past f at n e = ap (λ b. cond (not b) (at ∷ nonzero f (at + 1) n) (nonzero f (at + 1) n)) (eq-eqb (f at) 0 e)

nonzero_here : (f : ℕ → ℕ) (at n : ℕ) → 0 < f at → nonzero f at (suc n) ≡ at ∷ nonzero f (at + 1) n
nonzero_here f at n h = ap (λ b. cond (not b) (at ∷ nonzero f (at + 1) n) (nonzero f (at + 1) n)) (ne_eqb (f at) 0 (λ e. omega (arith, e)))

-- the last of the places of a range, or x before it
record IsLast (f : ℕ → ℕ) (x at n last : ℕ) : Type 0 where
  low : x ≤ last
  high : last < at + n
  there : (last ≡ x) ⊎ (0 < f last)
  all : (i : ℕ) → at ≤ i → i < at + n → 0 < f i → i ≤ last

last_is : (f : ℕ → ℕ) (n x at : ℕ) → x < at → IsLast f x at n (last_of x (nonzero f at n))
last_is f zero x at h = record {
  low = omega arith;
  high = omega arith;
  there = inl refl;
  all = λ i a b p. omega arith;
}
last_is f (suc n) x at h = by (eq-zero-or-pos (f at)) (last_is f n x (at + 1) (omega arith)) (last_is f n at (at + 1) (omega arith))
  where
    by : (f at ≡ 0) ⊎ (0 < f at) → IsLast f x (at + 1) n (last_of x (nonzero f (at + 1) n)) → IsLast f at (at + 1) n (last_of at (nonzero f (at + 1) n))
        → IsLast f x at (suc n) (last_of x (nonzero f at (suc n)))
    by (inl e) past here = rw (nonzero_past f at n e) (record {
      low = past.low;
      high = let a = past.high in omega arith;
      there = past.there;
      all = λ i a b p. past.all i (moved i a p) (omega arith) p;
    })
      where
        moved : (i : ℕ) → at ≤ i → 0 < f i → at + 1 ≤ i
        moved i a p = elim (cases_lt at i) [ inl l ↦ omega arith | inr l ↦ let same : i ≡ at = omega arith in let v = ap f same in omega arith ]
    by (inr p) past here = rw (nonzero_here f at n p) (record {
      low = let a = here.low in omega arith;
      high = let a = here.high in omega arith;
      there = inr (elim here.there [ inl e ↦ let v = ap f e in omega arith | inr q ↦ q ]);
      all = λ i a b q. elim (cases_lt at i) [ inl l ↦ here.all i (omega arith) (omega arith) q | inr l ↦ let c = here.low in omega arith ];
    })

-- all places of a range at which a byte isn't zero are in the span, and such bytes are at both of its ends
pub record IsSpanOf (f : ℕ → ℕ) (at n : ℕ) (span : Span) : Type 0 where
  pub low : at ≤ span.at
  pub some : 0 < span.length
  pub high : span.at + span.length ≤ at + n
  pub first : 0 < f span.at
  pub last : 0 < f (span.at + span.length - 1)
  pub all : (i : ℕ) → at ≤ i → i < at + n → 0 < f i → (span.at ≤ i) × (i < span.at + span.length)

abbrev pub IsZeroIn : (ℕ → ℕ) → ℕ → ℕ → Type 0
IsZeroIn f at n = (i : ℕ) → at ≤ i → i < at + n → f i ≡ 0

abbrev pub HasSpan : (ℕ → ℕ) → ℕ → ℕ → Option Span → Type 0
HasSpan f at n o = ((o ≡ None) × IsZeroIn f at n) ⊎ ((span : Span) × (o ≡ Some span) × IsSpanOf f at n span)

from_here : (f : ℕ → ℕ) (at n last : ℕ) → 0 < f at → IsLast f at (at + 1) n last → IsSpanOf f at (suc n) (record { at = at; length = last + 1 - at })
from_here f at n last p is =
    let low = is.low in
    let high = is.high in
    let e : at + (last + 1 - at) - 1 ≡ last = omega arith in
    record {
      low = omega arith;
      some = omega arith;
      high = omega arith;
      first = p;
      last = rw e (elim is.there [ inl same ↦ let v = ap f same in omega arith | inr q ↦ q ]);
      all = λ i a b q. (a, elim (cases_lt at i) [ inl l ↦ let c = is.all i (omega arith) (omega arith) q in omega arith | inr l ↦ omega arith ]);
    }

pub has_span : (f : ℕ → ℕ) (n at : ℕ) → HasSpan f at n (span_of (nonzero f at n))
has_span f zero at = inl (refl, λ i a b. absurd (omega arith))
has_span f (suc n) at = by (eq-zero-or-pos (f at)) (has_span f n (at + 1)) (last_is f n at (at + 1) (omega arith))
  where
    wider : (o : Option Span) → f at ≡ 0 → HasSpan f (at + 1) n o → HasSpan f at (suc n) o
    wider o e (inl none) = inl (none.0, λ i a b. elim (cases_lt at i) [ inl l ↦ none.1 i (omega arith) (omega arith) | inr l ↦ let same : i ≡ at = omega arith in ap f same ∙ e ])
    wider o e (inr found) =
        let is = found.2 in
        let low = is.low in
        let high = is.high in
        inr (
          found.0,
          found.1,
          record {
            low = omega arith;
            some = is.some;
            high = omega arith;
            first = is.first;
            last = is.last;
            all = λ i a b q. elim (cases_lt at i) [ inl l ↦ is.all i (omega arith) (omega arith) q | inr l ↦ let same : i ≡ at = omega arith in let v = ap f same in absurd (omega arith) ];
          },
        )

    by : (f at ≡ 0) ⊎ (0 < f at) → HasSpan f (at + 1) n (span_of (nonzero f (at + 1) n)) → IsLast f at (at + 1) n (last_of at (nonzero f (at + 1) n))
        → HasSpan f at (suc n) (span_of (nonzero f at (suc n)))
    by (inl e) more last = rw (nonzero_past f at n e) (wider _ e more)
    by (inr p) more last = rw (nonzero_here f at n p) (inr (record { at = at; length = last_of at (nonzero f (at + 1) n) + 1 - at }, refl, from_here f at n _ p last))

-- a range has one span at most
same_span : (f : ℕ → ℕ) (at n : ℕ) (s t : Span) → IsSpanOf f at n s → IsSpanOf f at n t → s ≡ t
same_span f at n s t p q =
    let a = p.low in let b = p.some in let c = p.high in
    let x = q.low in let y = q.some in let z = q.high in
    let s_first = q.all s.at a (omega arith) p.first in
    let t_first = p.all t.at x (omega arith) q.first in
    let s_last = q.all (s.at + s.length - 1) (omega arith) (omega arith) p.last in
    let t_last = p.all (t.at + t.length - 1) (omega arith) (omega arith) q.last in
    let u = s_first.0 in let v = t_first.0 in let k = s_last.1 in let l = t_last.1 in
    let ats : s.at ≡ t.at = omega arith in
    let lengths : s.length ≡ t.length = omega arith in
    both s.at t.at s.length t.length ats lengths
  where
    span : ℕ → ℕ → Span
    span a m = record { at = a; length = m }

    both : (a b m n : ℕ) → a ≡ b → m ≡ n → span a m ≡ span b n
    both a b m n e f = ap (λ x. span x m) e ∙ ap (span b) f

pub span_found : (f : ℕ → ℕ) (at n : ℕ) (s : Span) → IsSpanOf f at n s → span_of (nonzero f at n) ≡ Some s
span_found f at n s p = by (has_span f n at)
  where
    by : HasSpan f at n (span_of (nonzero f at n)) → span_of (nonzero f at n) ≡ Some s
    by (inl none) = let z = none.1 s.at p.low (let a = p.some in let b = p.high in omega arith) in let q = p.first in absurd (omega arith)
    by (inr found) = found.1 ∙ ap (λ x. Some x) (same_span f at n found.0 s found.2 p)

pub span_absent : (f : ℕ → ℕ) (at n : ℕ) → IsZeroIn f at n → span_of (nonzero f at n) ≡ None
span_absent f at n z = by (has_span f n at)
  where
    by : HasSpan f at n (span_of (nonzero f at n)) → span_of (nonzero f at n) ≡ None
    by (inl none) = none.0
    by (inr found) =
        let is = found.2 in
        let a = is.low in let b = is.some in let c = is.high in let p = is.first in
        let e = z found.0.at a (omega arith) in
        absurd (omega arith)

pub span_is : (f : ℕ → ℕ) (at n : ℕ) (s : Span) → span_of (nonzero f at n) ≡ Some s → IsSpanOf f at n s
span_is f at n s e = by (has_span f n at)
  where
    by : HasSpan f at n (span_of (nonzero f at n)) → IsSpanOf f at n s
    by (inl none) = absurd (let h : None ≡ Some s = sym none.0 ∙ e in (cc))
    by (inr found) = let same : found.0 ≡ s = (let h = sym found.1 ∙ e in cc) in rw (← same) found.2

-- ---- blocks of zeros

pub zeros_below_more : (bytes : List ℕ) (end m : ℕ) → ((k : ℕ) → k < end → get_or bytes k 0 ≡ 0) → IsZero (slice_range bytes end (end + m))
    → (k : ℕ) → k < end + m → get_or bytes k 0 ≡ 0
zeros_below_more bytes end m below here k h =
    elim (cases_lt k end) [
      | inl l ↦ below k l
      | inr l ↦
          let e : end + (k - end) ≡ k = omega arith in
          ap (λ j. get_or bytes j 0) (sym e) ∙ sym (get_or-between bytes end (end + m) (k - end) 0 (omega arith)) ∙ here (k - end)
    ]

pub zeros_above_more : (bytes : List ℕ) (start m : ℕ) → m ≤ start → ((k : ℕ) → start ≤ k → get_or bytes k 0 ≡ 0) → IsZero (slice_range bytes (start - m) start)
    → (k : ℕ) → start - m ≤ k → get_or bytes k 0 ≡ 0
zeros_above_more bytes start m room above here k h =
    elim (cases_lt k start) [
      | inr l ↦ above k l
      | inl l ↦
          let e : start - m + (k - (start - m)) ≡ k = omega arith in
          ap (λ j. get_or bytes j 0) (sym e) ∙ sym (get_or-between bytes (start - m) start (k - (start - m)) 0 (omega arith)) ∙ here (k - (start - m))
    ]
