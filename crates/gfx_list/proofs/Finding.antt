-- Where the first line feed is in what was read.
use Rattle.std.proofs.Common.{◌≡◌, ℕ, zero, suc, ◌+◌, ◌-◌, ◌<◌, ◌≤◌, ◌==◌, not, Bool, true, false, List, [], ◌∷◌, ◌++◌, length, take, drop, get_or, Option, Some, None, refl, sym, ap, subst, ◌∙◌, arith, append_assoc, length-drop, take-append-drop}
use Rattle.std.specs.Prelude.{MatchOption}
use Rattle.std.specs.Io.KnownBytes.{Consumes, Keeps}
use Rattle.std.proofs.Math.Seq.{split_at, take-add}
use Rattle.std.proofs.lemmas.Bool.{eqb-true, and_from}
use Rattle.std.proofs.lemmas.List.{append-nil, drop-drop, take_rest}
use borrow.Rule.Slice.PartMut.{put_mid}
use Rattle.gfx_decode.proofs.Buffer.{piece_behind}
use Rattle.gfx_text_grammar.specs.Splits.{is_without}
use Rattle.gfx_text_grammar.proofs.SplitLaws.{without-append}
use Rattle.memchr.specs.Find.{IsFirstByte, NoneBefore, Nowhere, Passes, is_byte}
use Rattle.gfx_list.specs.Lines.{HasLineTo}

-- ---- a byte that is searched

is_false : (b : Bool) → ¬ (b ≡ true) → b ≡ false
is_false true h = absurd (h refl)
is_false false h = refl

-- the byte is at no place before k
without_front : (c k : ℕ) (xs : List ℕ) → ((i : ℕ) → i < k → (get_or xs i 0 == c) ≡ false) → is_without c (take k xs) ≡ true
without_front c zero xs none = refl
without_front c (suc k) [] none = refl
without_front c (suc k) (x ∷ xs) none = and_from _ _ (ap not (none 0 (omega arith))) (without_front c k xs (λ i less. none (suc i) (omega (arith, less))))

-- nor anywhere
without_all : (c : ℕ) (xs : List ℕ) → ((i : ℕ) → i < length xs → (get_or xs i 0 == c) ≡ false) → is_without c xs ≡ true
without_all c [] none = refl
without_all c (x ∷ xs) none = and_from _ _ (ap not (none 0 (omega arith))) (without_all c xs (λ i less. none (suc i) (omega (arith, less))))

-- it is at k first
at_first : (c k : ℕ) (xs : List ℕ) → k < length xs → (get_or xs k 0 == c) ≡ true → xs ≡ take k xs ++ (c ∷ drop (k + 1) xs)
at_first c k xs within here =
    let behind : suc k ≡ k + 1 = omega arith in
    split_at xs k 0 within
    ∙ ap (λ b. take k xs ++ (b ∷ drop (suc k) xs)) (eqb-true (get_or xs k 0) c here)
    ∙ ap (λ n. take k xs ++ (c ∷ drop n xs)) behind

-- a text without the byte before it, and a search behind that
pub feed_found : (searched k : ℕ) (text : List ℕ) → searched ≤ length text → is_without 10 (take searched text) ≡ true
    → NoneBefore (Passes (is_byte 10) (drop searched text)) 0 (length (drop searched text)) k → Passes (is_byte 10) (drop searched text) k → HasLineTo (searched + k) text
feed_found searched k text room before none here =
    let rest = drop searched text in
    let within : k < length rest = none.high in
    let places = length-drop searched text in
    let front : take (searched + k) text ≡ take searched text ++ take k rest = take-add searched k text in
    let behind : drop (k + 1) rest ≡ drop (searched + k + 1) text =
    let sum : searched + (k + 1) ≡ searched + k + 1 = omega arith in
    drop-drop (k + 1) searched text ∙ ap (λ n. drop n text) sum in
    let without : is_without 10 (take k rest) ≡ true = without_front 10 k rest (λ i less. is_false (get_or rest i 0 == 10) (none.before i (omega arith) (omega (arith, less)))) in
    record {
      within = omega (arith, within, places, room);
      whole = sym (take-append-drop searched text)
          ∙ ap (λ (xs : List ℕ). take searched text ++ xs) (at_first 10 k rest within here)
          ∙ sym (append_assoc (take searched text) (take k rest) (10 ∷ drop (k + 1) rest))
          ∙ ap (λ (xs : List ℕ). xs ++ (10 ∷ drop (k + 1) rest)) (sym front)
          ∙ ap (λ (xs : List ℕ). take (searched + k) text ++ (10 ∷ xs)) behind
          ∙ sym (append_assoc (take (searched + k) text) (10 ∷ []) (drop (searched + k + 1) text));
      without = ap (is_without 10) front ∙ without-append 10 (take searched text) (take k rest) before without;
    }

pub feed_none : (searched : ℕ) (text : List ℕ) → is_without 10 (take searched text) ≡ true
    → Nowhere (Passes (is_byte 10) (drop searched text)) 0 (length (drop searched text)) → is_without 10 text ≡ true
feed_none searched text before none =
    let rest = drop searched text in
    ap (is_without 10) (sym (take-append-drop searched text))
    ∙ without-append 10 (take searched text) rest before (without_all 10 rest (λ i less. is_false (get_or rest i 0 == 10) (none i (omega arith) less)))

-- what a search behind so many bytes answers
pub feed_at : (searched : ℕ) (text part : List ℕ) (r : Option ℕ) → searched ≤ length text → is_without 10 (take searched text) ≡ true → part ≡ drop searched text
    → IsFirstByte (is_byte 10) part r → MatchOption r (is_without 10 text ≡ true) (λ k. HasLineTo (searched + k) text)
feed_at searched text part None room before is found = feed_none searched text before (subst (λ xs. IsFirstByte (is_byte 10) xs None) is found)
feed_at searched text part (Some k) room before is found =
    let here = subst (λ xs. IsFirstByte (is_byte 10) xs (Some k)) is found in
    feed_found searched k text room before here.0 here.1

-- ---- lines

-- what is searched, as a part of a buffer
pub searched_part : (items held view : List ℕ) (start searched : ℕ) → held ≡ items → drop start items ≡ view
    → take (length held - (start + searched)) (drop (start + searched) held) ≡ drop searched view
searched_part items held view start searched is shown =
    take_rest held (start + searched) ∙ ap (drop (start + searched)) is ∙ sym (drop-drop searched start items) ∙ ap (drop searched) shown

-- what is kept loses nothing
pub consumes_none : (a b : Option (List ℕ)) → Keeps a b → Consumes a b []
consumes_none None b kept = tt
consumes_none (Some xs) None kept = absurd kept
consumes_none (Some xs) (Some ys) kept = sym kept

-- what was held is all that stays where nothing is kept of a piece
pub piece_none : (held old new after : List ℕ) (front k len : ℕ) → take front old ≡ held → front ≤ length old → front + length new ≡ len
    → take front (take len (put_mid front k old new ++ after)) ≡ held
piece_none held old new after front k len is there long =
    let sum : front + 0 ≡ front = omega arith in
    subst (λ n. take n (take len (put_mid front k old new ++ after)) ≡ held) sum (piece_behind held old new after front k len 0 is there (omega arith) (omega (arith, long)) ∙ append-nil held)
