-- What a buffer holds once a piece was read behind what it held.
use Rattle.std.proofs.Common.{◌≡◌, ℕ, ◌+◌, ◌≤◌, List, ◌++◌, length, take, ap, ◌∙◌, arith, take_all, length-append, length-take-le}
use Rattle.std.proofs.lemmas.List.{take-append-le, take-take}
use Rattle.gfx_io.proofs.Parts.{take-put_mid_part}
use borrow.Rule.Slice.PartMut.{put_mid, post_of}

-- the prefix of what was held stays in what was made longer
pub front_kept : (held old zeros : List ℕ) (front size : ℕ) → front ≤ length held → length held ≤ size → old ≡ take size held ++ zeros → take front old ≡ take front held
front_kept held old zeros front size within fits made =
    ap (take front) (made ∙ ap (λ (xs : List ℕ). xs ++ zeros) (take_all size held fits)) ∙ take-append-le front held zeros within

-- the first `count` bytes of the piece `new` were kept
pub piece_behind : (held old new after : List ℕ) (front k len count : ℕ) → take front old ≡ held → front ≤ length old → count ≤ length new
    → front + length new ≤ len → take (front + count) (take len (put_mid front k old new ++ after)) ≡ held ++ take count new
piece_behind held old new after front k len count is there some long =
    let back = post_of front k old in
    let room : length (put_mid front k old new) ≡ front + (length new + length back) =
    omega (arith, length-take-le front old there, length-append (take front old) (new ++ back), length-append new back) in
    take-take (front + count) len (put_mid front k old new ++ after) (omega (arith, long, some))
    ∙ take-append-le (front + count) (put_mid front k old new) after (omega (arith, room, some))
    ∙ take-put_mid_part front k count old new there some
    ∙ ap (λ (xs : List ℕ). xs ++ take count new) is

-- a part was put at the start
pub front_filled : (room all : List ℕ) (k n : ℕ) → length all ≡ n → take n (put_mid 0 k room all) ≡ all
front_filled room all k n long = take-append-le n all (post_of 0 k room) (omega (arith, long)) ∙ take_all n all (omega (arith, long))

-- two parts were put one behind the other, the first of sixteen bytes
pub filled : (into start options first second : List ℕ) (j k n : ℕ) → first ≡ start → second ≡ options → length start ≡ 16 → n ≤ length options
    → take (16 + n) (put_mid 16 k (put_mid 0 j into first) second) ≡ start ++ take n options
filled into start options first second j k n is also long fits =
    let whole : length first ≡ 16 = ap length is ∙ long in
    let room : 16 ≤ length (put_mid 0 j into first) = omega (arith, whole, length-append first (post_of 0 j into)) in
    let inside : n ≤ length second = omega (arith, ap length also, fits) in
    take-put_mid_part 16 k n (put_mid 0 j into first) second room inside
    ∙ ap (λ (xs : List ℕ). xs ++ take n second) (take-put_mid_part 0 j 16 into first (omega arith) (omega (arith, whole)) ∙ take_all 16 first (omega (arith, whole)))
    ∙ ap (λ (xs : List ℕ). xs ++ take n second) is
    ∙ ap (λ (xs : List ℕ). start ++ take n xs) also
