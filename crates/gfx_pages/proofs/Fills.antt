-- The fills of pages, and the search for the next one.
use Rattle.std.proofs.Common.{◌≡◌, ℕ, zero, suc, ◌+◌, ◌-◌, ◌*◌, ◌/◌, ◌<◌, ◌≤◌, Bool, true, false, cond, ◌⊎◌, inl, inr, List, ◌∷◌, ◌++◌, Option, Some, None, length, take, drop, min, get_or, nat_le, refl, ap, sym, ◌∙◌, arith}
use Rattle.std.specs.List.{find, filter_map, flat_map, range_with_len, cons_option}
use Rattle.std.proofs.Math.Nat.{eq-zero-or-pos}
use Rattle.std.proofs.lemmas.Bool.{cases_lt, le-leb, leb-true}
use Rattle.std.proofs.lemmas.List.{get_or_append_left, get_or-append-add, get_or_past}
use Rattle.gfx_pages.specs.declared.page.Page.{Page}
use Rattle.gfx_pages.specs.declared.bytes.Span.{Span}
use Rattle.gfx_pages.specs.Page.{page_bytes, WellPaged}
use Rattle.gfx_pages.specs.Used.{IsZero, IsUsed}
use Rattle.gfx_pages.specs.Fills.{fills}
use Rattle.gfx_pages.proofs.Paged.{split_at, page_size, page_small, page_end}
use Rattle.gfx_pages.proofs.Sized.{page_fill, fills_are}
use Rattle.gfx_pages.proofs.Scans.{span_found, span_absent, span_is}

-- a byte of page i
pub byte_of_page : (s : ℕ) (ps : List Page) (n i o : ℕ) (d : Page) → WellPaged s ps n → i < length ps → o < s
    → get_or (flat_map page_bytes ps) (s * i + o) 0 ≡ get_or (page_bytes (get_or ps i d)) o 0
byte_of_page s ps n i o d w h l =
    let before = flat_map page_bytes (take i ps) in
    let here = page_bytes (get_or ps i d) in
    let after = flat_map page_bytes (drop (i + 1) ps) in
    elim (cases_lt o (length here)) [
      | inl b ↦
          ap (λ x. get_or x (s * i + o) 0) (split_at ps i d h)
          ∙ ap (λ j. get_or (before ++ (here ++ after)) (j + o) 0) (sym (w.starts i h))
          ∙ get_or-append-add before (here ++ after) o 0
          ∙ get_or_append_left here after 0 o b
      | inr b ↦
          elim (page_size s ps n i d w h) [
            | inl e ↦ absurd (omega arith)
            | inr e ↦ get_or_past (flat_map page_bytes ps) (s * i + o) 0 (let t = w.total in let f = e.0 in omega arith) ∙ sym (get_or_past here o 0 b)
          ]
    ]

-- below, `page` is page i of the n bytes that f gives

abbrev pub IsPage : ℕ → (ℕ → ℕ) → ℕ → ℕ → List ℕ → Type 0
IsPage s f n i page = (length page ≤ s) × (s * i + length page ≤ n) × ((o : ℕ) → o < s → f (s * i + o) ≡ get_or page o 0)

pub is_page : (s : ℕ) (ps : List Page) (n i : ℕ) (d : Page) (v : List ℕ) → WellPaged s ps n → flat_map page_bytes ps ≡ v → i < length ps → d ≡ get_or ps i d
    → IsPage s (λ j. get_or v j 0) (length v) i (page_bytes d)
is_page s ps n i d v w view h e =
    let size = ap (λ x. length (page_bytes x)) e in
    let all = w.total in
    let same = ap length view in
    let small = page_small s ps n i d w h in
    let inside = page_end s ps n i d w h in (
      omega arith,
      omega arith,
      λ o l.
          ap (λ x. get_or x (s * i + o) 0) (sym view) ∙ byte_of_page s ps n i o d w h l ∙ ap (λ x. get_or (page_bytes x) o 0) (sym e),
    )

positive : (x : ℕ) → ¬ (x ≡ 0) → 0 < x
positive x h = elim (eq-zero-or-pos x) [ inl e ↦ absurd (h e) | inr p ↦ p ]

pub used_fill : (s : ℕ) (f : ℕ → ℕ) (n i from end : ℕ) (page : List ℕ) → IsPage s f n i page → IsUsed page from end
    → page_fill s f n i ≡ Some (record { at = s * i + from; length = end - from })
used_fill s f n i from end page p u =
    let start : i * s ≡ s * i = grind arith in
    let small = p.0 in
    let inside = p.1 in
    let some = u.some in
    let within = u.within in
    let e : s * i + from + (end - from) - 1 ≡ s * i + (end - 1) = omega arith in
    span_found f (i * s) (min s (n - i * s)) _ (record {
      low = omega arith;
      some = omega arith;
      high = omega arith;
      first = positive _ (λ z. u.first (sym (p.2 from (omega arith)) ∙ z));
      last = positive _ (λ z. u.last (sym (p.2 (end - 1) (omega arith)) ∙ ap f (sym e) ∙ z));
      all = λ k a b q.
          let g : s * i + (k - s * i) ≡ k = omega arith in
          let c = u.all (k - s * i) (λ y. let z = ap f (sym g) ∙ p.2 (k - s * i) (omega arith) ∙ y in absurd (omega arith)) in
          let c0 = c.0 in let c1 = c.1 in
          (omega arith, omega arith);
    })

pub zero_fill : (s : ℕ) (f : ℕ → ℕ) (n i : ℕ) (page : List ℕ) → IsPage s f n i page → IsZero page → page_fill s f n i ≡ None
zero_fill s f n i page p z =
    let start : i * s ≡ s * i = grind arith in
    span_absent f (i * s) (min s (n - i * s))
    (λ k a b. let g : s * i + (k - s * i) ≡ k = omega arith in ap f (sym g) ∙ p.2 (k - s * i) (omega arith) ∙ z (k - s * i))

-- ---- the search

-- the first fill that begins at `after` or later, of pages from k on
abbrev pub found_from : ℕ → (ℕ → ℕ) → ℕ → ℕ → ℕ → Option Span
found_from s f n after k = find (λ span. nat_le after span.at) (filter_map (page_fill s f n) (range_with_len k ((n + (s - 1)) / s - k)))

-- a page is passed over that has no fill at `after` or later
abbrev pub IsPassed : ℕ → Option Span → Type 0
IsPassed after o = (span : Span) → o ≡ Some span → span.at < after

passed_over : (after : ℕ) (o : Option Span) (spans : List Span) → IsPassed after o
    → find (λ span. nat_le after span.at) (cons_option o spans) ≡ find (λ span. nat_le after span.at) spans
passed_over after None spans p = refl
passed_over after (Some span) spans p = by (nat_le after span.at) refl
  where
    by : (b : Bool) → nat_le after span.at ≡ b → find (λ span. nat_le after span.at) (span ∷ spans) ≡ find (λ span. nat_le after span.at) spans
    by true e = let low = p span refl in let high = leb-true after span.at e in absurd (omega arith)
    by false e = ap (λ b. cond b (Some span) (find (λ span. nat_le after span.at) spans)) e

pub found_later : (s : ℕ) (f : ℕ → ℕ) (n after k : ℕ) → IsPassed after (page_fill s f n k) → found_from s f n after k ≡ found_from s f n after (k + 1)
found_later s f n after k p = by (cases_lt k count)
  where
    count : ℕ
    count = (n + (s - 1)) / s

    by : (k < (n + (s - 1)) / s) ⊎ ((n + (s - 1)) / s ≤ k) → found_from s f n after k ≡ found_from s f n after (k + 1)
    by (inl h) =
        let e : (n + (s - 1)) / s - k ≡ suc ((n + (s - 1)) / s - (k + 1)) = omega arith in
        ap (λ m. find (λ span. nat_le after span.at) (filter_map (page_fill s f n) (range_with_len k m))) e
        ∙ passed_over after (page_fill s f n k) (filter_map (page_fill s f n) (range_with_len (k + 1) ((n + (s - 1)) / s - (k + 1)))) p
    by (inr h) =
        let e : (n + (s - 1)) / s - k ≡ 0 = omega arith in
        let g : (n + (s - 1)) / s - (k + 1) ≡ 0 = omega arith in
        ap (λ m. find (λ span. nat_le after span.at) (filter_map (page_fill s f n) (range_with_len k m))) e
        ∙ sym (ap (λ m. find (λ span. nat_le after span.at) (filter_map (page_fill s f n) (range_with_len (k + 1) m))) g)

pub found_here : (s : ℕ) (f : ℕ → ℕ) (n after k : ℕ) (span : Span) → k < (n + (s - 1)) / s → page_fill s f n k ≡ Some span → after ≤ span.at
    → found_from s f n after k ≡ Some span
found_here s f n after k span h e l =
    let m : (n + (s - 1)) / s - k ≡ suc ((n + (s - 1)) / s - (k + 1)) = omega arith in
    let rest = filter_map (page_fill s f n) (range_with_len (k + 1) ((n + (s - 1)) / s - (k + 1))) in
    ap (λ m. find (λ span. nat_le after span.at) (filter_map (page_fill s f n) (range_with_len k m))) m
    ∙ ap (λ o. find (λ span. nat_le after span.at) (cons_option o rest)) e
    ∙ ap (λ b. cond b (Some span) (find (λ span. nat_le after span.at) rest)) (le-leb after span.at l)

pub found_nowhere : (s : ℕ) (f : ℕ → ℕ) (n after k : ℕ) → (n + (s - 1)) / s ≤ k → found_from s f n after k ≡ None
found_nowhere s f n after k h =
    let e : (n + (s - 1)) / s - k ≡ 0 = omega arith in
    ap (λ m. find (λ span. nat_le after span.at) (filter_map (page_fill s f n) (range_with_len k m))) e

-- the fills of earlier pages begin too early
early_passed : (s : ℕ) (f : ℕ → ℕ) (n after first k : ℕ) → s * first ≤ after → k < first → IsPassed after (page_fill s f n k)
early_passed s f n after first k h l span e =
    let is = span_is f (k * s) (min s (n - k * s)) span e in
    let some = is.some in
    let high = is.high in
    let next : k * s + s ≤ s * first = grind arith in
    omega arith

pub found_first : (s : ℕ) (f : ℕ → ℕ) (n after first : ℕ) → s * first ≤ after → (k : ℕ) → k ≤ first → found_from s f n after 0 ≡ found_from s f n after k
found_first s f n after first h zero l = refl
found_first s f n after first h (suc k) l =
    found_first s f n after first h k (omega arith)
    ∙ found_later s f n after k (early_passed s f n after first k h (omega arith))
    ∙ ap (found_from s f n after) (let e : k + 1 ≡ suc k = omega arith in e)

pub find_fills : (v : List ℕ) (after : ℕ) → find (λ span. nat_le after span.at) (fills v) ≡ found_from 65536 (λ i. get_or v i 0) (length v) after 0
find_fills v after =
    let e : (length v + 65535) / 65536 ≡ (length v + 65535) / 65536 - 0 = omega arith in
    ap (find (λ (span : Span). nat_le after span.at)) (fills_are v)
    ∙ ap (λ m. find (λ span. nat_le after span.at) (filter_map (page_fill 65536 (λ i. get_or v i 0) (length v)) (range_with_len 0 m))) e

-- how many pages there are
pub page_count : (s : ℕ) (ps : List Page) (n : ℕ) → 0 < s → WellPaged s ps n → (n + (s - 1)) / s ≡ length ps
page_count s ps n p w = let c = w.cover in let f = w.few in grind arith

pub passed_none : (after : ℕ) (o : Option Span) → o ≡ None → IsPassed after o
passed_none after o e span f = absurd (let h : None ≡ Some span = sym e ∙ f in (cc))

pub passed_early : (after : ℕ) (o : Option Span) (span : Span) → o ≡ Some span → span.at < after → IsPassed after o
passed_early after o span e h other f = let same : span ≡ other = (let g = sym e ∙ f in cc) in rw (← same) h
