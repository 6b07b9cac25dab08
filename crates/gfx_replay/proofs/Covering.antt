-- Which bytes a change covers, and what it leaves.
use Rattle.std.proofs.Common.{◌≡◌, ℕ, ◌+◌, ◌-◌, ◌<◌, ◌≤◌, Bool, true, false, refl, sym, ap, ◌∙◌, List, ◌∷◌, length, get_or, slice_index, ◌&&◌, nat_le, nat_lt, arith}
use Rattle.std.specs.Bool.{if◌then◌else◌}
use Rattle.std.proofs.lemmas.Bool.{eq-eqb, eqb-true, le-leb, lt-ltb, and_from}
use Rattle.std.proofs.lemmas.Bool.Decides.{nat_tests}
use Rattle.std.proofs.lemmas.List.FromFn.{fill_by_all, get_or-map-range_with_len}
use Rattle.gfx_types.specs.declared.op.Place.{Place}
use Rattle.gfx_types.specs.declared.op.Place.TheVariants as place
use Rattle.gfx_model.specs.Steps.{Change}
use Rattle.gfx_model.specs.Steps.Change.{put, fill, copy}
use Rattle.gfx_model.specs.Bytes.{byte, same_place, covers_byte, word_byte}
use Rattle.gfx_replay.specs.Held.{AreLeft}

pub same_place_refl : (at : Place) → same_place at at ≡ true
same_place_refl (place.Memory m) = eq-eqb m m refl
same_place_refl (place.Image x) = eq-eqb x x refl

pub same_place-true : (a b : Place) → same_place a b ≡ true → a ≡ b
same_place-true (place.Memory a) (place.Memory b) e = ap (λ i. place.Memory i) (eqb-true a b e)
same_place-true (place.Image a) (place.Image b) e = ap (λ i. place.Image i) (eqb-true a b e)
same_place-true (place.Memory a) (place.Image b) e = absurd (cc)
same_place-true (place.Image a) (place.Memory b) e = absurd (cc)

-- bytes are left where each of them is
pub left_by_all : (es : List Change) (at : Place) (bytes : List ℕ) → ((k : ℕ) → k < length bytes → get_or bytes k 0 ≡ byte es at k) → AreLeft es at bytes
left_by_all es at bytes each = fill_by_all (byte es at) bytes (length bytes) 0 refl each

-- each byte of those that are left
pub left_at : (es : List Change) (at : Place) (bytes : List ℕ) → AreLeft es at bytes → (k : ℕ) → k < length bytes → get_or bytes k 0 ≡ byte es at k
left_at es at bytes left k below = ap (λ xs. get_or xs k 0) left ∙ get_or-map-range_with_len (byte es at) 0 (length bytes) k k 0 below (omega arith)

-- bytes that no change covers
pub left_same : (es more : List Change) (at : Place) (bytes : List ℕ) → ((i : ℕ) → byte more at i ≡ byte es at i) → AreLeft es at bytes → AreLeft more at bytes
left_same es more at bytes same left = left_by_all more at bytes (λ k below. left_at es at bytes left k below ∙ sym (same k))

covered : (to : Place) (o n k : ℕ) → k < n → covers_byte to o n to (o + k) ≡ true
covered to o n k below =
    and_from (same_place to to && nat_le o (o + k)) _ (and_from (same_place to to) (nat_le o (o + k)) (same_place_refl to) (le-leb o (o + k) (omega arith)))
    (lt-ltb (o + k) (o + n) (omega arith))

before : (to at : Place) (o n k : ℕ) → k < o → covers_byte to o n at k ≡ false
before to at o n k below = by (same_place to at)
  where
    by : (t : Bool) → (t && nat_le o k && nat_lt k (o + n)) ≡ false
    by true = grind (arith, nat_tests)
    by false = refl

behind : (to at : Place) (o n k : ℕ) → o + n ≤ k → covers_byte to o n at k ≡ false
behind to at o n k above = by (same_place to at)
  where
    by : (t : Bool) → (t && nat_le o k && nat_lt k (o + n)) ≡ false
    by true = grind (arith, nat_tests)
    by false = refl

elsewhere : (to at : Place) (o n k : ℕ) → same_place to at ≡ false → covers_byte to o n at k ≡ false
elsewhere to at o n k other = ap (λ t. t && nat_le o k && nat_lt k (o + n)) other

-- ---- a change of n bytes of a place from an offset on, which become those of f

pub record IsChangeOf (es more : List Change) (to : Place) (o n : ℕ) (f : ℕ → ℕ) : Type 0 where
  pub inside : (k : ℕ) → k < n → byte more to (o + k) ≡ f k
  pub front : (at : Place) (k : ℕ) → k < o → byte more at k ≡ byte es at k
  pub rest : (at : Place) (k : ℕ) → o + n ≤ k → byte more at k ≡ byte es at k
  pub others : (at : Place) (k : ℕ) → same_place to at ≡ false → byte more at k ≡ byte es at k

back : (o k : ℕ) → o + k - o ≡ k
back o k = omega arith

pub put_changes : (es : List Change) (to : Place) (o : ℕ) (bytes : List ℕ) → IsChangeOf es (put to o bytes ∷ es) to o (length bytes) (slice_index bytes)
unfolding byte
put_changes es to o bytes = record {
  inside = λ k below. ap (λ t. if t then slice_index bytes (o + k - o) else byte es to (o + k)) (covered to o (length bytes) k below) ∙ ap (slice_index bytes) (back o k);
  front = λ at k below. ap (λ t. if t then slice_index bytes (k - o) else byte es at k) (before to at o (length bytes) k below);
  rest = λ at k above. ap (λ t. if t then slice_index bytes (k - o) else byte es at k) (behind to at o (length bytes) k above);
  others = λ at k other. ap (λ t. if t then slice_index bytes (k - o) else byte es at k) (elsewhere to at o (length bytes) k other);
}

pub fill_changes : (es : List Change) (to : Place) (o n word : ℕ) → IsChangeOf es (fill to o n word ∷ es) to o n (word_byte word)
unfolding byte
fill_changes es to o n word = record {
  inside = λ k below. ap (λ t. if t then word_byte word (o + k - o) else byte es to (o + k)) (covered to o n k below) ∙ ap (word_byte word) (back o k);
  front = λ at k below. ap (λ t. if t then word_byte word (k - o) else byte es at k) (before to at o n k below);
  rest = λ at k above. ap (λ t. if t then word_byte word (k - o) else byte es at k) (behind to at o n k above);
  others = λ at k other. ap (λ t. if t then word_byte word (k - o) else byte es at k) (elsewhere to at o n k other);
}

pub copy_changes : (es : List Change) (to : Place) (o : ℕ) (source : Place) (so n : ℕ) → IsChangeOf es (copy to o source so n ∷ es) to o n (λ k. byte es source (so + k))
unfolding byte
copy_changes es to o source so n = record {
  inside = λ k below. ap (λ t. elim t [ true ↦ byte es source (so + (o + k - o)) | false ↦ byte es to (o + k) ]) (covered to o n k below) ∙ ap (λ j. byte es source (so + j)) (back o k);
  front = λ at k below. ap (λ t. elim t [ true ↦ byte es source (so + (k - o)) | false ↦ byte es at k ]) (before to at o n k below);
  rest = λ at k above. ap (λ t. elim t [ true ↦ byte es source (so + (k - o)) | false ↦ byte es at k ]) (behind to at o n k above);
  others = λ at k other. ap (λ t. elim t [ true ↦ byte es source (so + (k - o)) | false ↦ byte es at k ]) (elsewhere to at o n k other);
}
