-- A list of bytes after a change of some of them.
use Rattle.std.proofs.Common.{◌≡◌, ℕ, zero, suc, ◌+◌, ◌-◌, ◌/◌, ◌%◌, ◌^◌, ◌<◌, ◌≤◌, ◌⊎◌, inl, inr, refl, sym, ap, ◌∙◌, List, ◌∷◌, ◌++◌, length, get_or, take, drop, slice_index, arith}
use Rattle.std.specs.Int.{to_le_bytes, w32}
use Rattle.std.proofs.lemmas.Bool.{cases_lt}
use Rattle.std.proofs.lemmas.List.{length-append, length-take-le, get_or_append_left, get_or-append_right, get_or-take, get_or-drop}
use Rattle.std.proofs.lemmas.List.Edits.{length-paste}
use Rattle.std.proofs.lemmas.List.FromFn.{get_or-map-range_with_len}
use Rattle.gfx_types.specs.declared.op.Place.{Place}
use Rattle.gfx_pages.specs.Lists.{overwrite, repeated}
use Rattle.gfx_pages.proofs.Lists.{overwrite-paste}
use Rattle.gfx_pages.proofs.Repeated.{length-repeated}
use Rattle.gfx_model.specs.Steps.{Change}
use Rattle.gfx_model.specs.Steps.Change.{put, fill}
use Rattle.gfx_model.specs.Bytes.{byte, word_byte}
use Rattle.gfx_replay.specs.Held.{AreLeft}
use Rattle.gfx_replay.proofs.Covering.{left_by_all, left_at, IsChangeOf, put_changes, fill_changes}

pub length-overwrite : (xs : List ℕ) (at : ℕ) (new : List ℕ) → at + length new ≤ length xs → length (overwrite xs at new) ≡ length xs
length-overwrite xs at new fits = ap length (overwrite-paste xs at new) ∙ length-paste xs at new (length new) fits (omega arith)

length_front : (xs : List ℕ) (at : ℕ) (new : List ℕ) → at + length new ≤ length xs → length (take at xs ++ new) ≡ at + length new
length_front xs at new fits = length-append (take at xs) new ∙ ap (λ n. n + length new) (length-take-le at xs (omega arith))

before : (xs : List ℕ) (at : ℕ) (new : List ℕ) → at + length new ≤ length xs → (k : ℕ) → k < at → get_or (overwrite xs at new) k 0 ≡ get_or xs k 0
before xs at new fits k below =
    let long = length_front xs at new fits in
    let front = length-take-le at xs (omega arith) in
    get_or_append_left (take at xs ++ new) (drop (at + length new) xs) 0 k (omega arith)
    ∙ get_or_append_left (take at xs) new 0 k (omega arith)
    ∙ get_or-take at xs k 0 below

inside : (xs : List ℕ) (at : ℕ) (new : List ℕ) → at + length new ≤ length xs → (k : ℕ) → k < length new → get_or (overwrite xs at new) (at + k) 0 ≡ get_or new k 0
inside xs at new fits k below =
    let long = length_front xs at new fits in
    get_or_append_left (take at xs ++ new) (drop (at + length new) xs) 0 (at + k) (omega arith)
    ∙ get_or-append_right (take at xs) new at (at + k) 0 (length-take-le at xs (omega arith)) (omega arith)
    ∙ ap (λ j. get_or new j 0) (let e : at + k - at ≡ k = omega arith in e)

behind : (xs : List ℕ) (at : ℕ) (new : List ℕ) → at + length new ≤ length xs → (k : ℕ) → at + length new ≤ k → get_or (overwrite xs at new) k 0 ≡ get_or xs k 0
behind xs at new fits k above =
    let n = at + length new in
    get_or-append_right (take at xs ++ new) (drop n xs) n k 0 (length_front xs at new fits) above
    ∙ get_or-drop n xs (k - n) 0
    ∙ ap (λ j. get_or xs j 0) (let e : n + (k - n) ≡ k = omega arith in e)

-- bytes that are left, with what a change writes put over them
pub left_over : (es more : List Change) (to : Place) (o : ℕ) (f : ℕ → ℕ) (xs piece : List ℕ) → o + length piece ≤ length xs → AreLeft es to xs →
    IsChangeOf es more to o (length piece) f → ((k : ℕ) → k < length piece → get_or piece k 0 ≡ f k) → AreLeft more to (overwrite xs o piece)
left_over es more to o f xs piece fits left change is = left_by_all more to (overwrite xs o piece) each
  where
    n : ℕ
    n = length piece

    each : (k : ℕ) → k < length (overwrite xs o piece) → get_or (overwrite xs o piece) k 0 ≡ byte more to k
    each k below = by (cases_lt k o)
      where
        short : k < length xs
        short = let long = length-overwrite xs o piece fits in omega arith

        within : o ≤ k → k < o + length piece → get_or (overwrite xs o piece) k 0 ≡ byte more to k
        within low high =
            let e : o + (k - o) ≡ k = omega arith in
            ap (λ j. get_or (overwrite xs o piece) j 0) (sym e)
            ∙ inside xs o piece fits (k - o) (omega arith) ∙ is (k - o) (omega arith) ∙ sym (change.inside (k - o) (omega arith))
            ∙ ap (byte more to) e

        by : (k < o) ⊎ (o ≤ k) → get_or (overwrite xs o piece) k 0 ≡ byte more to k
        by (inl low) = before xs o piece fits k low ∙ left_at es to xs left k short ∙ sym (change.front to k low)
        by (inr low) =
            elim (cases_lt k (o + length piece)) [
              | inl high ↦ within low high
              | inr high ↦ behind xs o piece fits k high ∙ left_at es to xs left k short ∙ sym (change.rest to k high)
            ]

pub left_put : (es : List Change) (to : Place) (o : ℕ) (xs piece : List ℕ) → o + length piece ≤ length xs → AreLeft es to xs → AreLeft (put to o piece ∷ es) to (overwrite xs o piece)
left_put es to o xs piece fits left = left_over es (put to o piece ∷ es) to o (slice_index piece) xs piece fits left (put_changes es to o piece) (λ k below. refl)

-- byte k of a repeated word
word_byte_at : (word k : ℕ) → slice_index (to_le_bytes w32 word) (k % 4) ≡ word_byte word k
word_byte_at word k = by (k % 4) (let h : k % 4 < 4 = omega arith in h)
  where
    by : (r : ℕ) → r < 4 → slice_index (to_le_bytes w32 word) r ≡ word / 256 ^ r % 256
    by zero h = ap (λ n. n % 256) (let e : word ≡ word / 1 = omega arith in e)
    by (suc zero) h = refl
    by (suc (suc zero)) h = refl
    by (suc (suc (suc zero))) h = refl
    by (suc (suc (suc (suc r)))) h = absurd (omega arith)

pub left_fill : (es : List Change) (to : Place) (o n word : ℕ) (xs : List ℕ) → o + n ≤ length xs → AreLeft es to xs → AreLeft (fill to o n word ∷ es) to (overwrite xs o (repeated word n))
left_fill es to o n word xs fits left =
    let long = length-repeated word n in
    left_over es (fill to o n word ∷ es) to o (word_byte word) xs (repeated word n) (omega arith) left
    (let change = fill_changes es to o n word in rw long change)
    (λ k below. get_or-map-range_with_len (λ j. slice_index (to_le_bytes w32 word) (j % 4)) 0 n k k 0 (omega arith) (omega arith) ∙ word_byte_at word k)
