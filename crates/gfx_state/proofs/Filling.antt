-- Going over the fills of a list of bytes, and what a section says of them.
use Rattle.std.proofs.Common.{◌≡◌, ℕ, zero, suc, ◌+◌, ◌-◌, ◌*◌, ◌/◌, ◌<◌, ◌≤◌, min, Bool, true, false, List, [], ◌∷◌, Option, Some, None, length, nat_le, cond, refl, ap, sym, subst, ◌∙◌, length-take, length-drop, arith, rules}
use Rattle.std.specs.Prelude.{if◌then◌else◌, find, filter, option_map, unwrap_or, IsSome, IsSomeAnd, slice_index, slice_range}
use Rattle.std.specs.List.{AllByRecursion, filter_map, range_with_len, cons_option}
use Rattle.std.proofs.lemmas.Bool.{le-leb, leb-true}
use Rattle.std.proofs.lemmas.Bool.Decides.{nat_tests}
use Rattle.gfx_pages.specs.declared.bytes.Span.{Span}
use Rattle.gfx_pages.specs.Fills.{fills}
use Rattle.gfx_pages.proofs.Scans.{span_is}
use Rattle.gfx_pages.proofs.Sized.{page_fill, fills_are}
use Rattle.gfx_model.specs.Section.{when}
use Rattle.gfx_feature_model.specs.Lean.{Keep, kept_block}
use Rattle.gfx_state.specs.Filled.{fill_event}
use Rattle.gfx_state.proofs.Listing.{filter_in, filter_out}

-- each span begins behind those before it
abbrev pub IsRising : List Span → Type 0
IsRising [] = Unit {0}
IsRising (s ∷ ss) = AllByRecursion (λ t. s.at < t.at) ss × IsRising ss

-- it begins at `after` or later
abbrev pub is_from : ℕ → Span → Bool
is_from after s = nat_le after s.at

filter_whole : (after : ℕ) (ss : List Span) → AllByRecursion (λ t. after ≤ t.at) ss → filter (is_from after) ss ≡ ss
filter_whole after [] all = refl
filter_whole after (s ∷ ss) all = filter_in (is_from after) s ss (le-leb after s.at all.0) ∙ ap (λ l. s ∷ l) (filter_whole after ss all.1)

all_from : (a b : ℕ) → a ≤ b + 1 → (ss : List Span) → AllByRecursion (λ t. b < t.at) ss → AllByRecursion (λ t. a ≤ t.at) ss
all_from a b l [] all = tt
all_from a b l (s ∷ ss) all = (let h = all.0 in omega (arith, h, l), all_from a b l ss all.1)

pub found_passes : (after : ℕ) (ss : List Span) (s : Span) → find (is_from after) ss ≡ Some s → after ≤ s.at
found_passes after [] s found = absurd (cc)
found_passes after (x ∷ xs) s found = by (is_from after x) refl (found_passes after xs s) found
  where
    by : (t : Bool) → is_from after x ≡ t → (find (is_from after) xs ≡ Some s → after ≤ s.at) → cond t (Some x) (find (is_from after) xs) ≡ Some s → after ≤ s.at
    by true is rest found = let same : x ≡ s = cc in let low = leb-true after x.at is in let e = ap (λ (z : Span). z.at) same in omega (arith, low, e)
    by false is rest found = rest found

-- the next span, and then those behind it
pub from_next : (after : ℕ) (ss : List Span) (s : Span) → IsRising ss → find (is_from after) ss ≡ Some s → filter (is_from after) ss ≡ s ∷ filter (is_from (s.at + 1)) ss
from_next after [] s rising found = absurd (cc)
from_next after (x ∷ xs) s rising found = by (is_from after x) refl (from_next after xs s rising.1) found
  where
    by : (t : Bool) → is_from after x ≡ t → (find (is_from after) xs ≡ Some s → filter (is_from after) xs ≡ s ∷ filter (is_from (s.at + 1)) xs) → cond t (Some x) (find (is_from after) xs) ≡ Some s → filter (is_from after) (x ∷ xs) ≡ s ∷ filter (is_from (s.at + 1)) (x ∷ xs)
    by true is rest found =
        let same : x ≡ s = cc in
        let low = leb-true after x.at is in
        let over : is_from (x.at + 1) x ≡ false = grind (arith, nat_tests) in
        filter_in (is_from after) x xs is
        ∙ ap (λ l. x ∷ l) (filter_whole after xs (all_from after x.at (omega (arith, low)) xs rising.0) ∙ sym (filter_whole (x.at + 1) xs (all_from (x.at + 1) x.at (omega arith) xs rising.0)) ∙ sym (filter_out (is_from (x.at + 1)) x xs over))
        ∙ ap (λ (z : Span). z ∷ filter (is_from (z.at + 1)) (x ∷ xs)) same
    by false is rest found =
        let far = found_passes after xs s found in
        let over : is_from (s.at + 1) x ≡ false = grind (arith, nat_tests, is, far) in
        filter_out (is_from after) x xs is ∙ rest found ∙ ap (λ l. s ∷ l) (sym (filter_out (is_from (s.at + 1)) x xs over))

pub from_none : (after : ℕ) (ss : List Span) → find (is_from after) ss ≡ None → filter (is_from after) ss ≡ []
from_none after [] none = refl
from_none after (x ∷ xs) none = by (is_from after x) refl (from_none after xs) none
  where
    by : (t : Bool) → is_from after x ≡ t → (find (is_from after) xs ≡ None → filter (is_from after) xs ≡ []) → cond t (Some x) (find (is_from after) xs) ≡ None → filter (is_from after) (x ∷ xs) ≡ []
    by true is rest none = absurd (cc)
    by false is rest none = filter_out (is_from after) x xs is ∙ rest none

pub from_start : (ss : List Span) → filter (is_from 0) ss ≡ ss
from_start [] = refl
from_start (s ∷ ss) = filter_in (is_from 0) s ss (le-leb 0 s.at (omega arith)) ∙ ap (λ l. s ∷ l) (from_start ss)

-- ---- the fills of pages rise

-- some bytes of n, and of a page
abbrev pub IsPart : ℕ → Span → Type 0
IsPart n s = (0 < s.length) × (s.length ≤ 65536) × (s.at + s.length ≤ n)

module _ (f : ℕ → ℕ) (n : ℕ) where
  -- the fills of so many pages, from one on
  abbrev fills_from : ℕ → ℕ → List Span
  fills_from k m = filter_map (page_fill 65536 f n) (range_with_len k m)

  behind : (k m limit : ℕ) → limit ≤ k * 65536 → AllByRecursion (λ t. limit ≤ t.at) (fills_from k m)
  behind k zero limit l = tt
  behind k (suc m) limit l = by (page_fill 65536 f n k) refl (behind (k + 1) m limit (omega (arith, l)))
    where
      by : (o : Option Span) → page_fill 65536 f n k ≡ o → AllByRecursion (λ t. limit ≤ t.at) (fills_from (k + 1) m) → AllByRecursion (λ t. limit ≤ t.at) (cons_option o (fills_from (k + 1) m))
      by None is rest = rest
      by (Some s) is rest = (let low = (span_is f (k * 65536) (min 65536 (n - k * 65536)) s is).low in omega (arith, low, l), rest)

  past : (b : ℕ) (ss : List Span) → AllByRecursion (λ t. b + 1 ≤ t.at) ss → AllByRecursion (λ t. b < t.at) ss
  past b [] all = tt
  past b (s ∷ ss) all = (let h = all.0 in omega (arith, h), past b ss all.1)

  rising : (k m : ℕ) → IsRising (fills_from k m)
  rising k zero = tt
  rising k (suc m) = by (page_fill 65536 f n k) refl (rising (k + 1) m)
    where
      by : (o : Option Span) → page_fill 65536 f n k ≡ o → IsRising (fills_from (k + 1) m) → IsRising (cons_option o (fills_from (k + 1) m))
      by None is rest = rest
      by (Some s) is rest =
          let there = span_is f (k * 65536) (min 65536 (n - k * 65536)) s is in
          let some = there.some in
          let high = there.high in
          let next : s.at + 1 ≤ (k + 1) * 65536 = omega (arith, some, high) in
          (past s.at (fills_from (k + 1) m) (behind (k + 1) m (s.at + 1) next), rest)

  all_short : (k m : ℕ) → AllByRecursion (IsPart n) (fills_from k m)
  all_short k zero = tt
  all_short k (suc m) = by (page_fill 65536 f n k) refl (all_short (k + 1) m)
    where
      by : (o : Option Span) → page_fill 65536 f n k ≡ o → AllByRecursion (IsPart n) (fills_from (k + 1) m) → AllByRecursion (IsPart n) (cons_option o (fills_from (k + 1) m))
      by None is rest = rest
      by (Some s) is rest =
          let there = span_is f (k * 65536) (min 65536 (n - k * 65536)) s is in
          let low = there.low in
          let some = there.some in
          let high = there.high in
          ((omega (arith, some), omega (arith, low, high), omega (arith, low, some, high)), rest)

pub fills_rise : (bytes : List ℕ) → IsRising (fills bytes)
fills_rise bytes = subst IsRising (sym (fills_are bytes)) (rising (slice_index bytes) (length bytes) 0 ((length bytes + 65535) / 65536))

pub fills_short : (bytes : List ℕ) → AllByRecursion (IsPart (length bytes)) (fills bytes)
fills_short bytes =
    subst (AllByRecursion (IsPart (length bytes))) (sym (fills_are bytes)) (all_short (slice_index bytes) (length bytes) 0 ((length bytes + 65535) / 65536))

-- what holds of all holds of the one that is found
pub found_holds : (P : Span → Type 0) (after : ℕ) (ss : List Span) (s : Span) → AllByRecursion P ss → find (is_from after) ss ≡ Some s → P s
found_holds P after [] s all found = absurd (cc)
found_holds P after (x ∷ xs) s all found = by (is_from after x) refl (found_holds P after xs s all.1) found
  where
    by : (t : Bool) → is_from after x ≡ t → (find (is_from after) xs ≡ Some s → P s) → cond t (Some x) (find (is_from after) xs) ≡ Some s → P s
    by true is rest found = let same : x ≡ s = cc in rw (← same) all.0
    by false is rest found = rest found

-- ---- the bytes of a place that has so many

pub length_there : (o : Option (List ℕ)) (n : ℕ) → option_map length o ≡ Some n → length (unwrap_or o []) ≡ n
length_there None n is = absurd (cc)
length_there (Some bytes) n is = let same : length bytes ≡ n = cc in same

pub is_there : (o : Option (List ℕ)) (n : ℕ) → option_map length o ≡ Some n → IsSome o
is_there None n is = absurd (cc)
is_there (Some bytes) n is = search rules

pub inside_there : (o : Option (List ℕ)) (n k : ℕ) → option_map length o ≡ Some n → k ≤ n → IsSomeAnd o (λ bytes. k ≤ length bytes)
inside_there None n k is l = absurd (cc)
inside_there (Some bytes) n k is l = let same : length bytes ≡ n = cc in omega (arith, same, l)

pub inside_all : (o : Option (List ℕ)) (n : ℕ) → IsSomeAnd o (λ bytes. n ≤ length bytes) → n ≤ length (unwrap_or o [])
inside_all None n is = absurd is
inside_all (Some bytes) n is = is

-- ---- a fill that may be left out

pub fill_kept : (k : Keep) (memory : ℕ) (bytes : List ℕ) (fill : Span) (b : Bool) → fill.at + fill.length ≤ length bytes → k.fill memory fill.at fill.length ≡ b
    → kept_block k (fill_event memory bytes fill) ≡ when b (fill_event memory bytes fill ∷ [])
fill_kept k memory bytes fill b within is =
    let long : length (slice_range bytes fill.at (fill.at + fill.length)) ≡ fill.length = simp (length-take, length-drop) (omega (arith, within)) in
    ap (λ n. if k.fill memory fill.at n then fill_event memory bytes fill ∷ [] else []) long ∙ ap (λ t. if t then fill_event memory bytes fill ∷ [] else []) is
