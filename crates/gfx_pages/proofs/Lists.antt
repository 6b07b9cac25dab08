use Rattle.std.proofs.Common.{◌≡◌, ℕ, ◌+◌, ◌-◌, ◌≤◌, List, [], ◌++◌, length, take, drop, refl, ap, sym, ◌∙◌, arith, slice_range}
use Rattle.std.proofs.lemmas.List.{take-append-drop, take_all, append_assoc, take-take, take_at, drop-drop, length-take-le, length-drop, drop_at, drop-take}
use Rattle.std.proofs.lemmas.List.Edits.{paste-paste, drop-paste, length-paste, length-between}
use Rattle.std.proofs.lemmas.Slice.{between_is}
use borrow.Rule.Slice.PartMut.{put_mid}
use Rattle.std.proofs.lemmas.Grind.{common_steps}
use lib.Seq.{paste}
use Rattle.std.proofs.Common.{replicate}
use Rattle.std.proofs.lemmas.List.{take-replicate, drop-replicate, length-replicate}
use Rattle.gfx_pages.specs.Lists.{KeepsOutside, overwrite}

-- the next part of a list, after its first n elements
pub take_next : (s : List ℕ) (n m : ℕ) → take n s ++ slice_range s n (n + m) ≡ take (n + m) s
take_next s n m =
    ap (λ x. take n s ++ x) (between_is s n (n + m))
    ∙ ap (λ x. x ++ drop n (take (n + m) s)) (sym (take-take n (n + m) s (omega arith)))
    ∙ take-append-drop n (take (n + m) s)

-- only the first n elements are pasted
pub paste_take : (d : List ℕ) (at : ℕ) (s : List ℕ) (n : ℕ) → paste d at (take n s) n ≡ paste d at s n
paste_take d at s n = ap (λ x. take at d ++ x ++ drop (at + n) d) (take-take n n s (omega arith))

pub paste_step : (d : List ℕ) (at : ℕ) (s : List ℕ) (n m : ℕ) → n + m ≤ length s → at ≤ length d
    → paste (paste d at s n) (at + n) (slice_range s n (n + m)) m ≡ paste d at s (n + m)
paste_step d at s n m h l =
    ap (λ x. paste x (at + n) (slice_range s n (n + m)) m) (sym (paste_take d at s n))
    ∙ paste-paste d at (take n s) (slice_range s n (n + m)) n m (sym (length-take-le n s (omega arith))) (let e = length-between s n (n + m) h in omega arith) l
    ∙ ap (λ x. paste d at x (n + m)) (take_next s n m)
    ∙ paste_take d at s (n + m)

pub keeps_paste : (d : List ℕ) (at : ℕ) (s : List ℕ) (k n : ℕ) → at + n ≤ length d → k ≤ n → k ≤ length s → KeepsOutside d (paste d at s k) at n
keeps_paste d at s k n h l m = (
  ap (take at) (append_assoc (take at d) (take k s) (drop (at + k) d)) ∙ take_at (take at d) (take k s ++ drop (at + k) d) at (length-take-le at d (omega arith)),
  (let e : at + k + (n - k) ≡ at + n = omega arith in
      ap (λ j. drop j (paste d at s k)) (sym e)
      ∙ sym (drop-drop (n - k) (at + k) (paste d at s k))
      ∙ ap (drop (n - k)) (drop-paste d at s k (omega arith) m)
      ∙ drop-drop (n - k) (at + k) d
      ∙ ap (λ j. drop j d) e),
  length-paste d at s k (omega arith) m,
)

pub write_step : (d : List ℕ) (at : ℕ) (s : List ℕ) (n m : ℕ) (x y : List ℕ) → n + m ≤ length s → at ≤ length d → x ≡ paste d at s n
    → y ≡ paste x (at + n) (slice_range s n (n + m)) (length (slice_range s n (n + m))) → y ≡ paste d at s (n + m)
write_step d at s n m x y h l e f =
    f
    ∙ ap (λ k. paste x (at + n) (slice_range s n (n + m)) k) (let q : length (slice_range s n (n + m)) ≡ m = length-between s n (n + m) h ∙ omega arith in q)
    ∙ ap (λ z. paste z (at + n) (slice_range s n (n + m)) m) e
    ∙ paste_step d at s n m h l

pub keeps_same : (d x : List ℕ) (at : ℕ) (s : List ℕ) (k n : ℕ) → at + n ≤ length d → k ≤ n → k ≤ length s → x ≡ paste d at s k → KeepsOutside d x at n
keeps_same d x at s k n h l m e = rw e (keeps_paste d at s k n h l m)

pub read_step : (s b x y : List ℕ) (at n m : ℕ) → n + m ≤ length b → at + (n + m) ≤ length s → length x ≡ length b
    → x ≡ take n (drop at s) ++ drop n b → y ≡ take (length (slice_range x n (n + m))) (drop (at + n) s)
    → put_mid n (n + m - n) x y ≡ take (n + m) (drop at s) ++ drop (n + m) b
read_step s b x y at n m h l g e f =
    let k : n + m - n ≡ m = omega arith in
    let r : length (slice_range x n (n + m)) ≡ m = length-between x n (n + m) (omega arith) ∙ k in
    let t : take n x ≡ take n (drop at s) = ap (take n) e ∙ take_at (take n (drop at s)) (drop n b) n (length-take-le n (drop at s) (omega (arith, length-drop at s))) in
    let u : drop n x ≡ drop n b = ap (drop n) e ∙ drop_at (take n (drop at s)) (drop n b) n (length-take-le n (drop at s) (omega (arith, length-drop at s))) in
    let v : y ≡ slice_range (drop at s) n (n + m) = f ∙ ap (λ j. take j (drop (at + n) s)) (r ∙ sym k) ∙ ap (take (n + m - n)) (sym (drop-drop n at s)) in
    ap (λ j. take n x ++ (y ++ drop j (drop n x))) k
    ∙ ap (λ z. z ++ (y ++ drop m (drop n x))) t
    ∙ ap (λ z. take n (drop at s) ++ (z ++ drop m (drop n x))) v
    ∙ ap (λ z. take n (drop at s) ++ (slice_range (drop at s) n (n + m) ++ z)) (ap (drop m) u ∙ drop-drop m n b)
    ∙ sym (append_assoc (take n (drop at s)) (slice_range (drop at s) n (n + m)) (drop (n + m) b))
    ∙ ap (λ z. z ++ drop (n + m) b) (take_next (drop at s) n m)

pub keeps_chain : (d x y : List ℕ) (at n done m : ℕ) → done + m ≤ n → KeepsOutside d x at n → KeepsOutside x y (at + done) m → KeepsOutside d y at n
keeps_chain d x y at n done m h p q = (
  sym (take-take at (at + done) y (omega arith)) ∙ ap (take at) q.0 ∙ take-take at (at + done) x (omega arith) ∙ p.0,
  (let e : at + done + m + (n - (done + m)) ≡ at + n = omega arith in
      ap (λ j. drop j y) (sym e)
      ∙ sym (drop-drop (n - (done + m)) (at + done + m) y)
      ∙ ap (drop (n - (done + m))) q.1
      ∙ drop-drop (n - (done + m)) (at + done + m) x
      ∙ ap (λ j. drop j x) e
      ∙ p.1),
  q.2 ∙ p.2,
)

-- of what is pasted only the prefix counts
pub paste_same : (d : List ℕ) (at : ℕ) (s t : List ℕ) (n : ℕ) → take n s ≡ take n t → paste d at s n ≡ paste d at t n
paste_same d at s t n e = ap (λ x. take at d ++ x ++ drop (at + n) d) e

-- the prefix of zeros from a place on
pub zeros_part : (n from k : ℕ) → from + k ≤ n → take {A = ℕ} k (drop from (replicate n 0)) ≡ replicate k 0
zeros_part n from k h = ap (λ (x : List ℕ). take k x) (drop-replicate from n 0) ∙ take-replicate k (n - from) 0 (omega arith)

pub copy_step : (d : List ℕ) (at : ℕ) (s : List ℕ) (n m : ℕ) (x y : List ℕ) → n + m ≤ length s → at ≤ length d
    → x ≡ paste d at s n → y ≡ paste x (at + n) (drop n s) m → y ≡ paste d at s (n + m)
copy_step d at s n m x y h l e f =
    let q : length (slice_range s n (n + m)) ≡ m = length-between s n (n + m) h ∙ omega arith in
    let k : n + m - n ≡ m = omega arith in
    write_step d at s n m x y h l e
    (f
    ∙ sym (paste_take x (at + n) (drop n s) m)
    ∙ ap (λ j. paste x (at + n) (take j (drop n s)) m) (sym k)
    ∙ ap (λ j. paste x (at + n) (slice_range s n (n + m)) j) (sym q))

-- the same where s is the rest of a list from `from` on
pub copy_step_from : (d : List ℕ) (at : ℕ) (s : List ℕ) (from n m : ℕ) (x y : List ℕ) → from + (n + m) ≤ length s → at ≤ length d
    → x ≡ paste d at (drop from s) n → y ≡ paste x (at + n) (drop (from + n) s) m → y ≡ paste d at (drop from s) (n + m)
copy_step_from d at s from n m x y h l e f =
    copy_step d at (drop from s) n m x y (omega (arith, length-drop from s)) l e (f ∙ ap (λ z. paste x (at + n) z m) (sym (drop-drop n from s)))

-- what a paste left behind it and before it
pub drop_past_paste : (d : List ℕ) (at : ℕ) (s : List ℕ) (k j : ℕ) → at + k ≤ j → j ≤ length d → k ≤ length s → drop j (paste d at s k) ≡ drop j d
drop_past_paste d at s k j h l m =
    let e : at + (j - at) ≡ j = omega arith in
    let p = keeps_paste d at s k (j - at) (omega arith) (omega arith) m in
    ap (λ i. drop i (paste d at s k)) (sym e) ∙ p.1 ∙ ap (λ i. drop i d) e

pub down_step : (d : List ℕ) (to from n m : ℕ) (x y : List ℕ) → to ≤ from → from + (n + m) ≤ length d
    → x ≡ paste d to (drop from d) n → y ≡ paste x (to + n) (drop (from + n) x) m → y ≡ paste d to (drop from d) (n + m)
down_step d to from n m x y o h e f =
    copy_step_from d to d from n m x y h (omega arith) e
    (f ∙ ap (λ z. paste x (to + n) z m) (ap (drop (from + n)) e ∙ drop_past_paste d to (drop from d) n (from + n) (omega arith) (omega arith) (omega (arith, length-drop from d))))

-- the bytes before what was pasted
pub paste_before : (d s t : List ℕ) (at m k : ℕ) → at + m + k ≤ length d → m + k ≤ length s → take m t ≡ take m s
    → paste (paste d (at + m) (drop m s) k) at t m ≡ paste d at s (m + k)
paste_before d s t at m k h l e =
    let x = paste d (at + m) (drop m s) k in
    let p = keeps_paste d (at + m) (drop m s) k k h (omega arith) (omega (arith, length-drop m s)) in
    let a : take at x ≡ take at d = sym (take-take at (at + m) x (omega arith)) ∙ ap (take at) p.0 ∙ take-take at (at + m) d (omega arith) in
    let b : drop (at + m) x ≡ take k (drop m s) ++ drop (at + m + k) d =
    ap (drop (at + m)) (append_assoc (take (at + m) d) (take k (drop m s)) (drop (at + m + k) d))
    ∙ drop_at (take (at + m) d) (take k (drop m s) ++ drop (at + m + k) d) (at + m) (length-take-le (at + m) d (omega arith)) in
    let c : m + k - m ≡ k = omega arith in
    let g : take m s ++ take k (drop m s) ≡ take (m + k) s = ap (λ j. take m s ++ take j (drop m s)) (sym c) ∙ take_next s m k in
    let i : at + m + k ≡ at + (m + k) = omega arith in
    ap (λ z. z ++ take m t ++ drop (at + m) x) a
    ∙ ap (λ z. take at d ++ z ++ drop (at + m) x) e
    ∙ ap (λ z. take at d ++ take m s ++ z) b
    ∙ sym (append_assoc (take at d ++ take m s) (take k (drop m s)) (drop (at + m + k) d))
    ∙ ap (λ z. z ++ drop (at + m + k) d) (append_assoc (take at d) (take m s) (take k (drop m s)))
    ∙ ap (λ z. take at d ++ z ++ drop (at + m + k) d) g
    ∙ ap (λ j. take at d ++ take (m + k) s ++ drop j d) i

-- k bytes from `from + m` on have been copied, and the m bytes before them follow
pub up_step : (d : List ℕ) (to from m k : ℕ) (x y : List ℕ) → from ≤ to → to + m + k ≤ length d
    → x ≡ paste d (to + m) (drop (from + m) d) k → y ≡ paste x to (drop from x) m → y ≡ paste d to (drop from d) (m + k)
up_step d to from m k x y o h e f =
    let p = keeps_paste d (to + m) (drop (from + m) d) k k h (omega arith) (omega (arith, length-drop (from + m) d)) in
    let q : take (to + m) x ≡ take (to + m) d = ap (take (to + m)) e ∙ p.0 in
    let r : take (from + m) x ≡ take (from + m) d = sym (take-take (from + m) (to + m) x (omega arith)) ∙ ap (take (from + m)) q ∙ take-take (from + m) (to + m) d (omega arith) in
    let t : take m (drop from x) ≡ take m (drop from d) = sym (drop-take from m x) ∙ ap (drop from) r ∙ drop-take from m d in
    f
    ∙ ap (λ z. paste z to (drop from x) m) (e ∙ ap (λ z. paste d (to + m) z k) (sym (drop-drop m from d)))
    ∙ paste_before d (drop from d) (drop from x) to m k h (omega (arith, length-drop from d)) t

-- the inner range lies in the outer one
pub keeps_wider : (d x : List ℕ) (at i n m : ℕ) → i + m ≤ n → KeepsOutside d x (at + i) m → KeepsOutside d x at n
keeps_wider d x at i n m h p = keeps_chain d d x at n i m h (refl, refl, refl) p

-- a copy from the last byte to the first, of which l bytes are left and m come next
pub up_loop : (d : List ℕ) (to from n l m : ℕ) (x y : List ℕ) → from ≤ to → to + n ≤ length d → l ≤ n → m ≤ l
    → x ≡ paste d (to + l) (drop (from + l) d) (n - l) → y ≡ paste x (to + (l - m)) (drop (from + (l - m)) x) m
    → y ≡ paste d (to + (l - m)) (drop (from + (l - m)) d) (n - (l - m))
up_loop d to from n l m x y o h p q e f =
    let a : to + l ≡ to + (l - m) + m = omega arith in
    let b : from + l ≡ from + (l - m) + m = omega arith in
    let k : m + (n - l) ≡ n - (l - m) = omega arith in
    up_step d (to + (l - m)) (from + (l - m)) m (n - l) x y (omega arith) (omega arith)
    (e ∙ ap (λ j. paste d j (drop (from + l) d) (n - l)) a ∙ ap (λ j. paste d (to + (l - m) + m) (drop j d) (n - l)) b)
    f
    ∙ ap (λ j. paste d (to + (l - m)) (drop (from + (l - m)) d) j) k

pub up_failed : (d : List ℕ) (to from n l : ℕ) (x : List ℕ) → from ≤ to → to + n ≤ length d → l ≤ n
    → x ≡ paste d (to + l) (drop (from + l) d) (n - l) → KeepsOutside d x to n
up_failed d to from n l x o h p e =
    keeps_wider d x to l n (n - l) (omega arith) (keeps_same d x (to + l) (drop (from + l) d) (n - l) (n - l) (omega arith) (omega arith) (omega (arith, length-drop (from + l) d)) e)

-- the next zeros
pub clear_step : (d : List ℕ) (at n done m : ℕ) (x y : List ℕ) → done + m ≤ n → at ≤ length d
    → x ≡ paste d at (replicate n 0) done → y ≡ paste x (at + done) (replicate m 0) m → y ≡ paste d at (replicate n 0) (done + m)
clear_step d at n done m x y h l e f =
    copy_step d at (replicate n 0) done m x y (omega (arith, length-replicate {A = ℕ} n 0)) l e
    (f ∙ paste_same x (at + done) (replicate m 0) (drop done (replicate n 0)) m (take-replicate m m 0 (omega arith) ∙ sym (zeros_part n done m h)))

-- ---- what the public calls say

pub overwrite-paste : (d : List ℕ) (at : ℕ) (s : List ℕ) → overwrite d at s ≡ paste d at s (length s)
overwrite-paste d at s = ap (λ z. take at d ++ z ++ drop (at + length s) d) (sym (take_all (length s) s (omega arith)))

pub overwrite_is : (d : List ℕ) (at : ℕ) (s x : List ℕ) (n : ℕ) → n ≡ length s → x ≡ paste d at s n → x ≡ overwrite d at s
overwrite_is d at s x n l e =
    e
    ∙ ap (paste d at s) l
    ∙ ap (λ z. take at d ++ z ++ drop (at + length s) d) (take_all (length s) s (omega arith))

pub copied_is : (d : List ℕ) (to : ℕ) (s x : List ℕ) (from n : ℕ) → from + n ≤ length s → x ≡ paste d to (drop from s) n → x ≡ overwrite d to (slice_range s from (from + n))
copied_is d to s x from n h e =
    let k : from + n - from ≡ n = omega arith in
    let l : length (slice_range s from (from + n)) ≡ n = length-between s from (from + n) h ∙ k in
    overwrite_is d to (slice_range s from (from + n)) x n (sym l)
    (e ∙ sym (paste_take d to (drop from s) n) ∙ ap (λ j. paste d to (take j (drop from s)) n) (sym k))

paste_self : (xs : List ℕ) (o k : ℕ) → paste xs o (drop o xs) k ≡ xs
paste_self xs o k =
    let e : k ≡ o + k - o = omega arith in
    ap (λ x. x ++ drop (o + k) xs) (ap (λ j. take o xs ++ take j (drop o xs)) e ∙ take_next xs o k) ∙ take-append-drop (o + k) xs

-- zeros over zeros
pub zeros_pasted : (n o k : ℕ) (t : List ℕ) → o + k ≤ n → take k t ≡ replicate k 0 → replicate n 0 ≡ paste (replicate n 0) o t k
zeros_pasted n o k t h e =
    sym (paste_same (replicate n 0) o t (drop o (replicate n 0)) k
    (e ∙ sym (ap (take k) (drop-replicate o n 0) ∙ take-replicate k (n - o) 0 (omega arith)))
    ∙ paste_self (replicate n 0) o k)

pub resized_empty : (n j : ℕ) (v w : List ℕ) → v ≡ [] → j ≡ 0 → w ≡ take n v ++ replicate (n - j) 0 → w ≡ replicate n 0
resized_empty n j v w e z f = f ∙ ap (λ x. take n x ++ replicate (n - j) 0) e ∙ ap (λ i. take n [] ++ replicate (n - i) 0) z ∙ grind (arith, common_steps)

pub resized_longer : (n m j : ℕ) (v w : List ℕ) → length v ≡ m → j ≡ m → m ≤ n → w ≡ take n v ++ replicate (n - j) 0 → w ≡ v ++ replicate (n - m) 0
resized_longer n m j v w l z h f = f ∙ ap (λ i. take n v ++ replicate (n - i) 0) z ∙ ap (λ x. x ++ replicate (n - m) 0) (take_all n v (omega arith))

-- zeros, then a part, then zeros
pub zeros_around_is : (size offset : ℕ) (part a b c : List ℕ) → offset + length part ≤ size → a ≡ replicate offset 0 → b ≡ a ++ part
    → c ≡ b ++ replicate (size - (offset + length part)) 0 → c ≡ paste (replicate size 0) offset part (length part)
zeros_around_is size offset part a b c h e f g =
    g
    ∙ ap (λ x. x ++ replicate (size - (offset + length part)) 0) (f ∙ ap (λ x. x ++ part) e)
    ∙ ap (λ x. replicate offset 0 ++ part ++ x) (sym (drop-replicate (offset + length part) size 0))
    ∙ ap (λ x. x ++ part ++ drop (offset + length part) (replicate size 0)) (sym (take-replicate offset size 0 (omega arith)))
    ∙ ap (λ x. take offset (replicate size 0) ++ x ++ drop (offset + length part) (replicate size 0)) (sym (take_all (length part) part (omega arith)))
