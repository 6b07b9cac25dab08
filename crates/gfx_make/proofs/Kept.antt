-- The frames of a range.
use Rattle.std.proofs.Common.{◌≡◌, ◌≤◌, ◌<◌, ◌+◌, ◌-◌, nat_le, ℕ, zero, suc, Bool, true, false, [], ◌∷◌, List, map, cond, filter, refl, ap, ◌∙◌, arith}
use Rattle.std.specs.Prelude.{◌||◌, ◌==◌}
use Rattle.std.specs.List.{range_with_len}
use Rattle.std.proofs.lemmas.Bool.{le-leb, lt-leb, eqb-false}
use Rattle.gfx_types.specs.declared.frame.Frame.{Frame}
use Rattle.gfx_model.specs.Meaning.{frames_to, has_frame}
use Rattle.gfx_trim_law.specs.Law.{frames_from}
use Rattle.gfx_make.specs.Shown.{shown_frame, shown_from}

-- ---- ranges of numbers

module _ (last : ℕ) where
  none_up_to : (n a : ℕ) → last < a → filter (λ m. nat_le m last) (range_with_len a n) ≡ []
  none_up_to zero a high = refl
  none_up_to (suc n) a high =
      let rest = filter (λ m. nat_le m last) (range_with_len (a + 1) n) in
      ap (λ b. cond b (a ∷ rest) rest) (lt-leb a last high) ∙ none_up_to n (a + 1) (omega (arith, high))

  up_to : (n a k : ℕ) → k ≤ n → a + k ≡ last + 1 → filter (λ m. nat_le m last) (range_with_len a n) ≡ range_with_len a k
  up_to n a zero few is = none_up_to n a (omega (arith, is))
  up_to zero a (suc k) few is = absurd (omega (arith, few))
  up_to (suc n) a (suc k) few is =
      let rest = filter (λ m. nat_le m last) (range_with_len (a + 1) n) in
      ap (λ b. cond b (a ∷ rest) rest) (le-leb a last (omega (arith, is)))
      ∙ ap (λ ms. a ∷ ms) (up_to n (a + 1) k (omega (arith, few)) (omega (arith, is)))

module _ (first : ℕ) where
  all_from : (n a : ℕ) → first ≤ a → filter (λ m. nat_le first m) (range_with_len a n) ≡ range_with_len a n
  all_from zero a low = refl
  all_from (suc n) a low =
      let rest = filter (λ m. nat_le first m) (range_with_len (a + 1) n) in
      ap (λ b. cond b (a ∷ rest) rest) (le-leb first a low) ∙ ap (λ ms. a ∷ ms) (all_from n (a + 1) (omega (arith, low)))

  from_on : (j n a k : ℕ) → a + j ≡ first → n ≡ j + k → filter (λ m. nat_le first m) (range_with_len a n) ≡ range_with_len first k
  from_on zero n a k is long =
      let here : a ≡ first = omega (arith, is) in
      let same : n ≡ k = omega (arith, long) in
      all_from n a (omega (arith, is)) ∙ ap (λ b. range_with_len b n) here ∙ ap (range_with_len first) same
  from_on (suc j) zero a k is long = absurd (omega (arith, long))
  from_on (suc j) (suc n) a k is long =
      let rest = filter (λ m. nat_le first m) (range_with_len (a + 1) n) in
      ap (λ b. cond b (a ∷ rest) rest) (lt-leb first a (omega (arith, is))) ∙ from_on j n (a + 1) k (omega (arith, is)) (omega (arith, long))

-- ---- frames by their numbers

numbers_kept : (t : ℕ → Bool) (ns : List ℕ) → filter (λ (f : Frame). t f.number) (map shown_frame ns) ≡ map shown_frame (filter t ns)
numbers_kept t [] = refl
numbers_kept t (n ∷ ns) = by (t n) (numbers_kept t ns)
  where
    by : (b : Bool) → filter (λ (f : Frame). t f.number) (map shown_frame ns) ≡ map shown_frame (filter t ns) →
        cond b (shown_frame n ∷ filter (λ (f : Frame). t f.number) (map shown_frame ns)) (filter (λ (f : Frame). t f.number) (map shown_frame ns))
        ≡ map shown_frame (cond b (n ∷ filter t ns) (filter t ns))
    by true e = ap (λ fs. shown_frame n ∷ fs) e
    by false e = e

pub shown_to : (n last : ℕ) → last ≤ n → frames_to last (shown_from 1 n) ≡ shown_from 1 last
shown_to n last within = numbers_kept (λ m. nat_le m last) (range_with_len 1 n) ∙ ap (map shown_frame) (up_to last n 1 last within (omega arith))

pub range_shown : (first last : ℕ) → 1 ≤ first → first ≤ last → frames_from first (shown_from 1 last) ≡ shown_from first (last + 1 - first)
range_shown first last one ordered =
    numbers_kept (λ m. nat_le first m) (range_with_len 1 last)
    ∙ ap (map shown_frame) (from_on first (first - 1) last 1 (last + 1 - first) (omega (arith, one)) (omega (arith, one, ordered)))

-- a frame of each number from a on is shown
pub is_there : (n a k : ℕ) → a ≤ k → k < a + n → has_frame k (shown_from a n) ≡ true
is_there zero a k low high = absurd (omega (arith, low, high))
is_there (suc n) a k low high = by (a == k) refl (λ later. is_there n (a + 1) k later (omega (arith, high)))
  where
    by : (b : Bool) → (a == k) ≡ b → (a + 1 ≤ k → has_frame k (shown_from (a + 1) n) ≡ true) → (b || has_frame k (shown_from (a + 1) n)) ≡ true
    by true e later = refl
    by false e later = let other = eqb-false a k e in later (omega (arith, low, other))
