-- A word that is repeated, and zeros.
use Rattle.std.proofs.Common.{◌≡◌, ℕ, zero, suc, ◌+◌, ◌-◌, ◌%◌, ◌<◌, ◌≤◌, ◌⊎◌, inl, inr, List, [], ◌∷◌, refl, ap, sym, ◌∙◌, arith, length, take, min, replicate, slice_range, slice_index, get_or}
use Rattle.std.specs.Int.{to_le_bytes, w32}
use Rattle.std.proofs.lemmas.List.{same_lists, length-replicate, get_or-replicate}
use Rattle.std.proofs.lemmas.List.FromFn.{length-map-range_with_len, get_or-map-range_with_len, take-map-range_with_len}
use Rattle.std.proofs.lemmas.List.Edits.{length-between, get_or-between}
use lib.Seq.{paste}
use Rattle.gfx_pages.specs.Lists.{KeepsOutside, overwrite, repeated}
use Rattle.gfx_pages.proofs.Lists.{write_step, keeps_same, keeps_chain, overwrite-paste, overwrite_is}

pub length-repeated : (w n : ℕ) → length (repeated w n) ≡ n
length-repeated w n = length-map-range_with_len (λ k. slice_index (to_le_bytes w32 w) (k % 4)) 0 n

-- the part from a place that is a multiple of 4
pub repeated_part : (w n done m : ℕ) → done % 4 ≡ 0 → done + m ≤ n → repeated w m ≡ slice_range (repeated w n) done (done + m)
repeated_part w n done m z h =
    let f : ℕ → ℕ = λ k. slice_index (to_le_bytes w32 w) (k % 4) in
    let l : length (repeated w m) ≡ m = length-repeated w m in
    let long : length (slice_range (repeated w n) done (done + m)) ≡ done + m - done = length-between (repeated w n) done (done + m) (omega (arith, length-repeated w n)) in
    same_lists _ _ (omega arith)
    (λ k d b.
    let e : (done + k) % 4 ≡ k % 4 = omega arith in
    get_or-map-range_with_len f 0 m k k d (omega arith) (omega arith)
    ∙ ap (slice_index (to_le_bytes w32 w)) (sym e)
    ∙ sym (get_or-map-range_with_len f 0 n (done + k) (done + k) d (omega arith) (omega arith))
    ∙ sym (get_or-between (repeated w n) done (done + m) k d (omega arith)))

pub repeated_front : (w n m : ℕ) → m ≤ n → take m (repeated w n) ≡ repeated w m
repeated_front w n m h = take-map-range_with_len (λ k. slice_index (to_le_bytes w32 w) (k % 4)) 0 n m h

-- the prefix of the pattern is the next part of the fill
pub pattern_part : (p : List ℕ) (w long n done m : ℕ) → p ≡ repeated w long → m ≤ length p → done % 4 ≡ 0 → done + m ≤ n
    → take m p ≡ slice_range (repeated w n) done (done + m)
pattern_part p w long n done m e l z h = ap (take m) e ∙ repeated_front w long m (omega (arith, ap length e, length-repeated w long)) ∙ repeated_part w n done m z h

pub length-part : (w n done m : ℕ) (p : List ℕ) → done + m ≤ n → p ≡ slice_range (repeated w n) done (done + m) → length p ≡ m
length-part w n done m p h e = ap length e ∙ length-between (repeated w n) done (done + m) (omega (arith, length-repeated w n)) ∙ omega arith

pub not_at_end : (done n : ℕ) → (done % 4 ≡ 0) ⊎ (done ≡ n) → done < n → done % 4 ≡ 0
not_at_end done n (inl e) h = e
not_at_end done n (inr e) h = absurd (omega arith)

pub next_phase : (done n : ℕ) → done % 4 ≡ 0 → done < n → ((done + min 4096 (n - done)) % 4 ≡ 0) ⊎ (done + min 4096 (n - done) ≡ n)
next_phase done n z h = search arith

zeros : List ℕ
zeros = 0 ∷ 0 ∷ 0 ∷ 0 ∷ []

zeros_index : (k : ℕ) → get_or zeros k 0 ≡ 0
unfolding zeros
zeros_index zero = refl
zeros_index (suc zero) = refl
zeros_index (suc (suc zero)) = refl
zeros_index (suc (suc (suc zero))) = refl
zeros_index (suc (suc (suc (suc k)))) = refl

pub repeated-zero : (n : ℕ) → repeated 0 n ≡ replicate n 0
unfolding zeros
repeated-zero n =
    same_lists _ _ (length-repeated 0 n ∙ sym (length-replicate n 0))
    (λ k d b.
    let h : k < n = omega (arith, length-repeated 0 n) in
    get_or-map-range_with_len (λ k. slice_index (to_le_bytes w32 0) (k % 4)) 0 n k k d h (omega arith)
    ∙ zeros_index (k % 4)
    ∙ sym (get_or-replicate n k 0 d h))

-- ---- a step of a fill: p is the part that is written

pub fill_step : (d : List ℕ) (at w n done m : ℕ) (x y p : List ℕ) → done + m ≤ n → at ≤ length d
    → x ≡ paste d at (repeated w n) done → p ≡ slice_range (repeated w n) done (done + m) → y ≡ overwrite x (at + done) p
    → y ≡ paste d at (repeated w n) (done + m)
fill_step d at w n done m x y p h l e f g =
    write_step d at (repeated w n) done m x y (omega (arith, length-repeated w n)) l e
    (g ∙ overwrite-paste x (at + done) p ∙ ap (λ q. paste x (at + done) q (length q)) f)

pub fill_failed : (d : List ℕ) (at w n done m k : ℕ) (x y : List ℕ) → done + m ≤ n → at + n ≤ length d → k ≡ m
    → x ≡ paste d at (repeated w n) done → KeepsOutside x y (at + done) k → KeepsOutside d y at n
fill_failed d at w n done m k x y h l q e f =
    keeps_chain d x y at n done k (omega arith) (keeps_same d x at (repeated w n) done n l (omega arith) (omega (arith, length-repeated w n)) e) f

-- a fill with the word 0
pub zero_filled : (d : List ℕ) (at w n : ℕ) (x : List ℕ) → w ≡ 0 → x ≡ paste d at (replicate n 0) n → x ≡ overwrite d at (repeated w n)
zero_filled d at w n x z e =
    let zeros : replicate n 0 ≡ repeated w n = sym (repeated-zero n) ∙ ap (λ v. repeated v n) (sym z) in
    overwrite_is d at (repeated w n) x n (sym (length-repeated w n)) (e ∙ ap (λ s. paste d at s n) zeros)
