-- Frames that are picked by their numbers.
use Rattle.std.proofs.Common.{◌≡◌, ◌≤◌, ◌<◌, ◌+◌, ◌-◌, ◌==◌, ◌||◌, ◌&&◌, ℕ, zero, suc, Bool, true, false, cond, List, [], ◌∷◌, get_or, map, refl, sym, ap, ◌∙◌, arith}
use Rattle.std.specs.Prelude.{nat_le, unwrap_or}
use Rattle.std.specs.List.{filter, list_all, list_any, range_with_len}
use Rattle.std.proofs.lemmas.Bool.{eqb-false, le-leb, lt-leb}
use Rattle.gfx_types.specs.declared.frame.Frame.{Frame}
use Rattle.gfx_model.specs.Meaning.{frames_to, has_frame}
use Rattle.gfx_trim_law.specs.Law.{frames_from}
use Rattle.gfx_player.specs.declared.asked.Asked.TheVariants.{Between}
use Rattle.gfx_player.specs.Meanings.{first_of}
use Rattle.gfx_player.specs.Asked.{asked_of, has_last}

-- ---- numbers one after another

none_to : (n k b : ℕ) → b < k → filter (λ m. nat_le m b) (range_with_len k n) ≡ []
none_to zero k b over = refl
none_to (suc n) k b over =
    ap (λ t. cond t (k ∷ filter (λ m. nat_le m b) (range_with_len (k + 1) n)) (filter (λ m. nat_le m b) (range_with_len (k + 1) n))) (lt-leb k b over)
    ∙ none_to n (k + 1) b (omega (arith, over))

range_to : (count n k b : ℕ) → k + count ≡ b + 1 → count ≤ n → filter (λ m. nat_le m b) (range_with_len k n) ≡ range_with_len k count
range_to zero n k b is few = none_to n k b (omega (arith, is))
range_to (suc count) zero k b is few = absurd (omega (arith, few))
range_to (suc count) (suc n) k b is few =
    ap (λ t. cond t (k ∷ filter (λ m. nat_le m b) (range_with_len (k + 1) n)) (filter (λ m. nat_le m b) (range_with_len (k + 1) n))) (le-leb k b (omega (arith, is)))
    ∙ ap (λ ns. k ∷ ns) (range_to count n (k + 1) b (omega (arith, is)) (omega (arith, few)))

all_from : (n k a : ℕ) → a ≤ k → filter (λ m. nat_le a m) (range_with_len k n) ≡ range_with_len k n
all_from zero k a low = refl
all_from (suc n) k a low =
    ap (λ t. cond t (k ∷ filter (λ m. nat_le a m) (range_with_len (k + 1) n)) (filter (λ m. nat_le a m) (range_with_len (k + 1) n))) (le-leb a k low)
    ∙ ap (λ ns. k ∷ ns) (all_from n (k + 1) a (omega (arith, low)))

range_from : (skip n count k a : ℕ) → k + skip ≡ a → n ≡ skip + count → filter (λ m. nat_le a m) (range_with_len k n) ≡ range_with_len a count
range_from zero n count k a is parts =
    let same : k ≡ a = omega (arith, is) in
    let long : n ≡ count = omega (arith, parts) in
    all_from n k a (omega (arith, is)) ∙ ap (λ k. range_with_len k n) same ∙ ap (range_with_len a) long
range_from (suc skip) zero count k a is parts = absurd (omega (arith, parts))
range_from (suc skip) (suc n) count k a is parts =
    ap (λ t. cond t (k ∷ filter (λ m. nat_le a m) (range_with_len (k + 1) n)) (filter (λ m. nat_le a m) (range_with_len (k + 1) n))) (lt-leb a k (omega (arith, is)))
    ∙ range_from skip n count (k + 1) a (omega (arith, is)) (omega (arith, parts))

-- the numbers from a to b among those from 1 to n
pub range_picked : (a b n : ℕ) → 1 ≤ a → a ≤ b → b ≤ n → filter (λ m. nat_le a m) (filter (λ m. nat_le m b) (range_with_len 1 n)) ≡ range_with_len a (b - a + 1)
range_picked a b n one ordered within =
    ap (filter (λ m. nat_le a m)) (range_to b n 1 b (omega arith) within)
    ∙ range_from (a - 1) b (b - a + 1) 1 a (omega (arith, one)) (omega (arith, one, ordered))

pub first_in_range : (a n : ℕ) → 1 ≤ n → get_or (range_with_len a n) 0 0 ≡ a
first_in_range a zero some = absurd (omega (arith, some))
first_in_range a (suc n) some = refl

-- ---- frames by their numbers

abbrev pub numbers : List Frame → List ℕ
numbers fs = map (λ f. f.number) fs

pub numbers_picked : (p : ℕ → Bool) (fs : List Frame) → numbers (filter (λ f. p f.number) fs) ≡ filter p (numbers fs)
numbers_picked p [] = refl
numbers_picked p (f ∷ fs) = by (p f.number) (numbers_picked p fs)
  where
    by : (t : Bool) → numbers (filter (λ f. p f.number) fs) ≡ filter p (numbers fs) →
        numbers (cond t (f ∷ filter (λ f. p f.number) fs) (filter (λ f. p f.number) fs)) ≡ cond t (f.number ∷ filter p (numbers fs)) (filter p (numbers fs))
    by true same = ap (λ ns. f.number ∷ ns) same
    by false same = same

pub numbers_between : (a b : ℕ) (fs : List Frame) → numbers (frames_from a (frames_to b fs)) ≡ filter (λ m. nat_le a m) (filter (λ m. nat_le m b) (numbers fs))
numbers_between a b fs = numbers_picked (λ m. nat_le a m) (frames_to b fs) ∙ ap (filter (λ m. nat_le a m)) (numbers_picked (λ m. nat_le m b) fs)

pub first_number : (fs : List Frame) → unwrap_or (first_of fs) 0 ≡ get_or (numbers fs) 0 0
first_number [] = refl
first_number (f ∷ fs) = refl

-- a frame that is among picked ones is among all
pub has_more : (p : Frame → Bool) (k : ℕ) (fs : List Frame) → has_frame k (filter p fs) ≡ true → has_frame k fs ≡ true
has_more p k [] has = has
has_more p k (f ∷ fs) has = by (f.number == k) (p f) refl has (has_more p k fs)
  where
    by : (a b : Bool) → (f.number == k) ≡ a → has_frame k (cond b (f ∷ filter p fs) (filter p fs)) ≡ true → (has_frame k (filter p fs) ≡ true → has_frame k fs ≡ true) → (a || has_frame k fs) ≡ true
    by true b same has later = refl
    by false true same has later = later (sym (ap (λ t. t || has_frame k (filter p fs)) same) ∙ has)
    by false false same has later = later has

-- ---- picking twice

-- all that is left passes the test, whatever else is left out
pub still_all : (p q : Frame → Bool) (fs : List Frame) → list_all p fs ≡ true → list_all p (filter q fs) ≡ true
still_all p q [] all = refl
still_all p q (f ∷ fs) all = by (p f) (q f) refl all (still_all p q fs)
  where
    by : (a b : Bool) → p f ≡ a → (a && list_all p fs) ≡ true → (list_all p fs ≡ true → list_all p (filter q fs) ≡ true) → list_all p (cond b (f ∷ filter q fs) (filter q fs)) ≡ true
    by true true is all later = ap (λ t. t && list_all p (filter q fs)) is ∙ later all
    by true false is all later = later all
    by false b is all later = absurd cc

pub all_picked : (p : Frame → Bool) (fs : List Frame) → list_all p (filter p fs) ≡ true
all_picked p [] = refl
all_picked p (f ∷ fs) = by (p f) refl (all_picked p fs)
  where
    by : (a : Bool) → p f ≡ a → list_all p (filter p fs) ≡ true → list_all p (cond a (f ∷ filter p fs) (filter p fs)) ≡ true
    by true is later = ap (λ t. t && list_all p (filter p fs)) is ∙ later
    by false is later = later

pub pick_all : (p : Frame → Bool) (fs : List Frame) → list_all p fs ≡ true → filter p fs ≡ fs
pick_all p [] all = refl
pick_all p (f ∷ fs) all = by (p f) all (pick_all p fs)
  where
    by : (a : Bool) → (a && list_all p fs) ≡ true → (list_all p fs ≡ true → filter p fs ≡ fs) → cond a (f ∷ filter p fs) (filter p fs) ≡ f ∷ fs
    by true all later = ap (λ l. f ∷ l) (later all)
    by false all later = absurd cc

-- the frames of a range, picked once more
pub picked_again : (a b : ℕ) (fs : List Frame) → frames_from a (frames_to b (frames_from a (frames_to b fs))) ≡ frames_from a (frames_to b fs)
picked_again a b fs =
    let from = λ (f : Frame). nat_le a f.number in
    let to = λ (f : Frame). nat_le f.number b in
    let some = frames_from a (frames_to b fs) in
    ap (frames_from a) (pick_all to some (still_all to from (frames_to b fs) (all_picked to fs))) ∙ pick_all from some (all_picked from (frames_to b fs))

-- ---- the frames that are asked for

both : (p q : Frame → Bool) (fs : List Frame) → filter (λ f. p f && q f) fs ≡ filter p (filter q fs)
both p q [] = refl
both p q (f ∷ fs) = by (p f) (q f) refl (both p q fs)
  where
    by : (a b : Bool) → p f ≡ a → filter (λ f. p f && q f) fs ≡ filter p (filter q fs) →
        cond (a && b) (f ∷ filter (λ f. p f && q f) fs) (filter (λ f. p f && q f) fs) ≡ filter p (cond b (f ∷ filter q fs) (filter q fs))
    by true true is same = ap (λ l. f ∷ l) same ∙ sym (ap (λ t. cond t (f ∷ filter p (filter q fs)) (filter p (filter q fs))) is)
    by true false is same = same
    by false true is same = same ∙ sym (ap (λ t. cond t (f ∷ filter p (filter q fs)) (filter p (filter q fs))) is)
    by false false is same = same

-- they are those of the range, where the first frame of the file isn't above it
pub asked_is : (a b : ℕ) (fs : List Frame) → unwrap_or (first_of fs) 0 ≤ a → asked_of (Between a b) fs ≡ frames_from a (frames_to b fs)
asked_is a b fs low =
    ap (λ t. filter (λ (f : Frame). t && nat_le a f.number && nat_le f.number b) fs) (le-leb (unwrap_or (first_of fs) 0) a low)
    ∙ both (λ f. nat_le a f.number) (λ f. nat_le f.number b) fs

pub last_is : (a b : ℕ) (fs : List Frame) → unwrap_or (first_of fs) 0 ≤ a → has_last (Between a b) fs ≡ has_frame b fs
last_is a b fs low = ap (λ t. list_any (λ (f : Frame). t && f.number == b) fs) (le-leb (unwrap_or (first_of fs) 0) a low)

-- each number of a range is in it
pub in_range : (n a k : ℕ) → a ≤ k → k < a + n → list_any (λ m. m == k) (range_with_len a n) ≡ true
in_range zero a k low high = absurd (omega (arith, low, high))
in_range (suc n) a k low high = by (a == k) refl (λ later. in_range n (a + 1) k later (omega (arith, high)))
  where
    by : (b : Bool) → (a == k) ≡ b → (a + 1 ≤ k → list_any (λ m. m == k) (range_with_len (a + 1) n) ≡ true) → (b || list_any (λ m. m == k) (range_with_len (a + 1) n)) ≡ true
    by true e later = refl
    by false e later = let other = eqb-false a k e in later (omega (arith, low, other))

-- a frame whose number is among those of the frames
pub has_number : (fs : List Frame) (k : ℕ) → list_any (λ m. m == k) (map (λ (f : Frame). f.number) fs) ≡ has_frame k fs
has_number [] k = refl
has_number (f ∷ fs) k = ap (λ b. (f.number == k) || b) (has_number fs k)
