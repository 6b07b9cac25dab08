-- The bytes of the memory, frame by frame.
use Rattle.std.proofs.Common.{◌≡◌, ◌≤◌, ◌<◌, ◌+◌, ◌-◌, ◌*◌, ◌/◌, ◌%◌, nat_lt, ℕ, Bool, true, false, if◌then◌else◌, length, refl, ap, sym, ◌∙◌, arith, slice_index, ◌&&◌, nat_le}
use Rattle.std.proofs.lemmas.Bool.{leb-true, leb-false, ltb-true, ltb-false, lt-ltb, le-ltb, cond-true, cond-false}
use Rattle.std.proofs.lemmas.List.FromFn.{get_or-map-range_with_len}
use Rattle.gfx_types.specs.declared.op.Place.TheVariants as place
use Rattle.gfx_model.specs.Bytes.{covers_byte}
use Rattle.gfx_make.specs.Made.{frame_byte, frame_bytes}
use Rattle.gfx_make.specs.Shown.{memory_byte}
use Rattle.gfx_make.proofs.Valid.{length_frame}

-- ---- a part is filled in

-- the bytes that a frame fills in are those of the memory after it
given : (m j : ℕ) → m % 30 * 40960 ≤ j → j < m % 30 * 40960 + 40960 → slice_index (frame_bytes (m + 1)) (j - m % 30 * 40960) ≡ memory_byte (m + 1) j
unfolding frame_bytes memory_byte
given m j low high =
    let within : j - m % 30 * 40960 ≡ j % 40960 = omega (arith, low, high) in
    let below : j / 40960 < m + 1 = omega (arith, low, high) in
    let newest : m + 1 ≡ m + 1 - (m + 1 - 1 - j / 40960) % 30 = omega (arith, low, high) in
    get_or-map-range_with_len (frame_byte (m + 1)) 0 40960 (j - m % 30 * 40960) (j % 40960) 0 (omega (arith, low, high)) (omega (arith, low, high))
    ∙ ap (λ k. frame_byte k (j % 40960)) newest
    ∙ sym (cond-true (nat_lt (j / 40960) (m + 1)) (frame_byte (m + 1 - (m + 1 - 1 - j / 40960) % 30) (j % 40960)) 0 (lt-ltb (j / 40960) (m + 1) below))

-- the others stay
kept : (m j : ℕ) → j < 1228800 → (j / 40960 ≡ m % 30 → ⊥) → memory_byte m j ≡ memory_byte (m + 1) j
unfolding memory_byte
kept m j few other = by (nat_lt (j / 40960) m) refl
  where
    by : (b : Bool) → nat_lt (j / 40960) m ≡ b → memory_byte m j ≡ memory_byte (m + 1) j
    by true e =
        let below = ltb-true (j / 40960) m e in
        let same : m - (m - 1 - j / 40960) % 30 ≡ m + 1 - (m + 1 - 1 - j / 40960) % 30 = omega (arith, few, other, below) in
        cond-true (nat_lt (j / 40960) m) (frame_byte (m - (m - 1 - j / 40960) % 30) (j % 40960)) 0 e
        ∙ ap (λ k. frame_byte k (j % 40960)) same
        ∙ sym (cond-true (nat_lt (j / 40960) (m + 1)) (frame_byte (m + 1 - (m + 1 - 1 - j / 40960) % 30) (j % 40960)) 0 (lt-ltb (j / 40960) (m + 1) (omega (arith, below))))
    by false e =
        let over = ltb-false (j / 40960) m e in
        cond-false (nat_lt (j / 40960) m) (frame_byte (m - (m - 1 - j / 40960) % 30) (j % 40960)) 0 e
        ∙ sym (cond-false (nat_lt (j / 40960) (m + 1)) (frame_byte (m + 1 - (m + 1 - 1 - j / 40960) % 30) (j % 40960)) 0 (le-ltb (j / 40960) (m + 1) (omega (arith, few, other, over))))

abbrev pub part : ℕ → ℕ
part m = m % 30 * 40960

-- frame m + 1 fills in its part, and the others stay
pub memory_next : (m j old : ℕ) → j < 1228800 → old ≡ memory_byte m j →
    (if covers_byte (place.Memory 8) (part m) (length (frame_bytes (m + 1))) (place.Memory 8) j then slice_index (frame_bytes (m + 1)) (j - part m) else old)
    ≡ memory_byte (m + 1) j
memory_next m j old few is = by (nat_le (part m) j) (nat_lt j (part m + length (frame_bytes (m + 1)))) refl refl
  where
    long : length (frame_bytes (m + 1)) ≡ 40960
    long = length_frame (m + 1)

    by : (a b : Bool) → nat_le (part m) j ≡ a → nat_lt j (part m + length (frame_bytes (m + 1))) ≡ b →
        (if a && b then slice_index (frame_bytes (m + 1)) (j - part m) else old) ≡ memory_byte (m + 1) j
    by true true l h = let low = leb-true (part m) j l in let high = ltb-true j _ h in given m j low (omega (arith, high, long))
    by true false l h = let low = leb-true (part m) j l in let high = ltb-false j _ h in is ∙ kept m j few (λ same. omega (arith, high, long, same))
    by false b l h = let high = leb-false (part m) j l in is ∙ kept m j few (λ same. omega (arith, high, same))
