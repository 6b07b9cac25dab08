use Rattle.std.proofs.Common.{◌≡◌, ℕ, ◌+◌, ◌*◌, ◌/◌, ◌%◌, ◌<◌, ◌≤◌, List, [], ◌∷◌, ◌++◌, length, take, drop, set, get_or, replicate, refl, ap, sym, ◌∙◌, arith, length-append, zero, suc, add_assoc, add-one, ◌⊎◌, inl, inr}
use Rattle.std.proofs.lemmas.Bool.{cases_lt}
use Rattle.std.specs.List.{flat_map}
use Rattle.std.proofs.lemmas.List.{take-append-drop, append_assoc, set_split, drop_more, take_more, length-set, length-replicate, replicate-append-replicate, take-replicate, length_push, take_all, take-append-le, drop-append-le, length-drop, drop_all, get_or_default, append-nil}
use Rattle.std.proofs.lemmas.List.Concat.{flat_map-append}
use Rattle.std.proofs.lemmas.Grind.{common_steps}
use Rattle.std.specs.Prelude.{Result, Ok, Err, OnOk, OnErr}
use Rattle.std.proofs.lemmas.List.Edits.{length-paste}
use Rattle.std.proofs.lemmas.Result.{on_ok_weaker, on_err_weaker}
use Rattle.gfx_pages.proofs.Lists.{paste_same}
use lib.Seq.{paste, take-append-add, drop-append-add}
use Rattle.gfx_pages.specs.declared.page.Page.{Page}
use Rattle.gfx_pages.specs.declared.page.Page.TheVariants.{Absent}
use Rattle.gfx_pages.specs.Page.{page_bytes, WellPaged}

pub zeros-bytes : (s q : ℕ) → flat_map page_bytes (replicate q (Absent s)) ≡ replicate (s * q) 0
zeros-bytes s zero = grind (arith, common_steps)
zeros-bytes s (suc q) =
    ap (λ x. replicate s 0 ++ x) (zeros-bytes s q)
    ∙ replicate-append-replicate s (s * q) 0
    ∙ ap (λ n. replicate n 0) (let e : s + s * q ≡ s * suc q = grind arith in e)

pub zeros-rest-bytes : (s q r : ℕ) → flat_map page_bytes (replicate q (Absent s) ++ Absent r ∷ []) ≡ replicate (s * q + r) 0
zeros-rest-bytes s q r =
    flat_map-append page_bytes (replicate q (Absent s)) (Absent r ∷ [])
    ∙ ap (λ x. x ++ (replicate r 0 ++ [])) (zeros-bytes s q)
    ∙ ap (λ x. replicate (s * q) 0 ++ x) (append-nil (replicate r 0))
    ∙ replicate-append-replicate (s * q) r 0

pub zeros-length : (s q : ℕ) → length (flat_map page_bytes (replicate q (Absent s))) ≡ s * q
zeros-length s q = ap length (zeros-bytes s q) ∙ length-replicate (s * q) 0

pub zeros-paged : (s q : ℕ) → 0 < s → WellPaged s (replicate q (Absent s)) (s * q)
zeros-paged s q z = record {
  starts = λ i h. let l : i ≤ q = omega (arith, length-replicate q (Absent s)) in ap (λ x. length (flat_map page_bytes x)) (take-replicate i q (Absent s) l) ∙ zeros-length s i;
  total = zeros-length s q;
  cover = rw length-replicate (omega arith);
  few = rw length-replicate (omega arith);
}

pub zeros-rest-paged : (s q r : ℕ) → 0 < r → r ≤ s → WellPaged s (replicate q (Absent s) ++ Absent r ∷ []) (s * q + r)
zeros-rest-paged s q r some le = record {
  starts = λ i h.
      let l : i ≤ q = omega (arith, length-replicate q (Absent s), length_push (replicate q (Absent s)) (Absent r)) in
      let m : i ≤ length (replicate q (Absent s)) = rw length-replicate l in
      ap (λ x. length (flat_map page_bytes x)) (take-append-le i (replicate q (Absent s)) (Absent r ∷ []) m ∙ take-replicate i q (Absent s) l) ∙ zeros-length s i;
  total = ap length (zeros-rest-bytes s q r) ∙ length-replicate (s * q + r) 0;
  cover = rw length_push (rw length-replicate (grind arith));
  few = rw length_push (rw length-replicate (let g : s * (q + 1) ≡ s * q + s = grind arith in omega arith));
}

-- the pages with page i apart
pub split_at : (ps : List Page) (i : ℕ) (d : Page) → i < length ps
    → flat_map page_bytes ps ≡ flat_map page_bytes (take i ps) ++ (page_bytes (get_or ps i d) ++ flat_map page_bytes (drop (i + 1) ps))
split_at ps i d h =
    ap (flat_map page_bytes) (sym (take-append-drop i ps))
    ∙ flat_map-append page_bytes (take i ps) (drop i ps)
    ∙ ap (λ x. flat_map page_bytes (take i ps) ++ flat_map page_bytes x) (drop_more ps i d h)

pub split_set : (ps : List Page) (i : ℕ) (p : Page) → i < length ps
    → flat_map page_bytes (set ps i p) ≡ flat_map page_bytes (take i ps) ++ (page_bytes p ++ flat_map page_bytes (drop (i + 1) ps))
split_set ps i p h =
    ap (flat_map page_bytes) (set_split ps i p h ∙ ap (λ j. take i ps ++ p ∷ drop j ps) (sym (add-one i)))
    ∙ flat_map-append page_bytes (take i ps) (p ∷ drop (i + 1) ps)

pub whole-paged : (s q n : ℕ) (ps : List Page) → 0 < s → ps ≡ replicate q (Absent s) → n ≡ s * q → WellPaged s ps n
whole-paged s q n ps z e m = rw (e, m) (zeros-paged s q z)

pub whole-bytes : (s q n : ℕ) (ps : List Page) → ps ≡ replicate q (Absent s) → n ≡ s * q → flat_map page_bytes ps ≡ replicate n 0
whole-bytes s q n ps e m = rw (e, m) (zeros-bytes s q)

pub rest-paged : (s q r n : ℕ) (ps qs : List Page) → ps ≡ replicate q (Absent s) → qs ≡ ps ++ Absent r ∷ [] → n ≡ s * q + r → 0 < r → r ≤ s → WellPaged s qs n
rest-paged s q r n ps qs e f m some le = rw (f, e, m) (zeros-rest-paged s q r some le)

pub rest-bytes : (s q r n : ℕ) (ps qs : List Page) → ps ≡ replicate q (Absent s) → qs ≡ ps ++ Absent r ∷ [] → n ≡ s * q + r → flat_map page_bytes qs ≡ replicate n 0
rest-bytes s q r n ps qs e f m = rw (f, e, m) (zeros-rest-bytes s q r)

-- the place of a byte is a page that is there
pub page_there : (s : ℕ) (ps : List Page) (n at : ℕ) → 0 < s → WellPaged s ps n → at < n → at / s < length ps
page_there s ps n at p w h = let c = w.cover in grind arith

pub paste_inside : (xs ys zs t : List ℕ) (o k : ℕ) → o + k ≤ length ys → k ≤ length t
    → paste (xs ++ (ys ++ zs)) (length xs + o) t k ≡ xs ++ (paste ys o t k ++ zs)
paste_inside xs ys zs t o k h m =
    let a = take-append-add xs (ys ++ zs) o ∙ ap (λ x. xs ++ x) (take-append-le o ys zs (omega arith)) in
    let b = ap (λ n. drop n (xs ++ (ys ++ zs))) (add_assoc (length xs) o k) ∙ drop-append-add xs (ys ++ zs) (o + k) ∙ drop-append-le (o + k) ys zs h in
    rw (a, b) (simp append_assoc)

-- writing a part of page i
pub paste_set : (s : ℕ) (ps : List Page) (n i o k : ℕ) (t : List ℕ) (p d : Page) → WellPaged s ps n → i < length ps
    → o + k ≤ length (page_bytes (get_or ps i d)) → k ≤ length t
    → page_bytes p ≡ paste (page_bytes (get_or ps i d)) o t k
    → flat_map page_bytes (set ps i p) ≡ paste (flat_map page_bytes ps) (s * i + o) t k
paste_set s ps n i o k t p d w h m l e =
    split_set ps i p h
    ∙ ap (λ x. flat_map page_bytes (take i ps) ++ (x ++ flat_map page_bytes (drop (i + 1) ps))) e
    ∙ sym (paste_inside (flat_map page_bytes (take i ps)) (page_bytes (get_or ps i d)) (flat_map page_bytes (drop (i + 1) ps)) t o k m l)
    ∙ ap (λ x. paste (flat_map page_bytes (take i ps) ++ (page_bytes (get_or ps i d) ++ flat_map page_bytes (drop (i + 1) ps))) (x + o) t k) (w.starts i h)
    ∙ ap (λ x. paste x (s * i + o) t k) (sym (split_at ps i d h))

-- a page but the last is full, and the last one ends with the bytes
pub page_size : (s : ℕ) (ps : List Page) (n i : ℕ) (d : Page) → WellPaged s ps n → i < length ps
    → (length (page_bytes (get_or ps i d)) ≡ s) ⊎ ((s * i + length (page_bytes (get_or ps i d)) ≡ n) × (length ps ≤ i + 1))
page_size s ps n i d w h =
    elim (cases_lt (i + 1) (length ps)) [
      | inl l ↦
          inl (
          let a = w.starts i h in
          let b = w.starts (i + 1) l in
          let e = ap (λ x. length (flat_map page_bytes x)) (take_more ps i d h) ∙ ap length (flat_map-append page_bytes (take i ps) (get_or ps i d ∷ [])) ∙ length-append (flat_map page_bytes (take i ps)) (page_bytes (get_or ps i d) ++ []) in
          let f = length-append (page_bytes (get_or ps i d)) [] in
          let g : s * (i + 1) ≡ s * i + s = grind arith in
          omega arith)
      | inr l ↦
          inr (
          let a = w.starts i h in
          let e = ap length (split_at ps i d h) ∙ length-append (flat_map page_bytes (take i ps)) (page_bytes (get_or ps i d) ++ flat_map page_bytes (drop (i + 1) ps)) in
          let f = length-append (page_bytes (get_or ps i d)) (flat_map page_bytes (drop (i + 1) ps)) in
          let g = ap (λ x. length (flat_map page_bytes x)) (drop_all (i + 1) ps l) in
          let t = w.total in
          (omega arith, l))
    ]

pub page_small : (s : ℕ) (ps : List Page) (n i : ℕ) (d : Page) → WellPaged s ps n → i < length ps → length (page_bytes (get_or ps i d)) ≤ s
page_small s ps n i d w h =
    elim (page_size s ps n i d w h) [
      | inl e ↦ omega arith
      | inr e ↦
          let q : length ps ≡ i + 1 = omega arith in
          let c : n ≤ s * (i + 1) = rw (sym q) w.cover in
          let g : s * (i + 1) ≡ s * i + s = grind arith in
          let f = e.0 in
          omega arith
    ]

pub page_end : (s : ℕ) (ps : List Page) (n i : ℕ) (d : Page) → WellPaged s ps n → i < length ps → s * i + length (page_bytes (get_or ps i d)) ≤ n
page_end s ps n i d w h =
    let a = w.starts i h in
    let e = ap length (split_at ps i d h) ∙ length-append (flat_map page_bytes (take i ps)) (page_bytes (get_or ps i d) ++ flat_map page_bytes (drop (i + 1) ps)) in
    let f = length-append (page_bytes (get_or ps i d)) (flat_map page_bytes (drop (i + 1) ps)) in
    let t = w.total in
    omega arith

pub page_room : (s : ℕ) (ps : List Page) (n at k : ℕ) (d : Page) → 0 < s → WellPaged s ps n → 0 < k → at + k ≤ n → at % s + k ≤ s
    → at % s + k ≤ length (page_bytes (get_or ps (at / s) d))
page_room s ps n at k d p w z h m =
    elim (page_size s ps n (at / s) d w (page_there s ps n at p w (omega arith))) [
      | inl e ↦ omega arith
      | inr e ↦ let f : s * (at / s) + at % s ≡ at = omega arith in omega arith
    ]

-- a page of the same size in the place of another
pub lengths_set : (ps : List Page) (i j : ℕ) (p : Page) → length (page_bytes p) ≡ length (page_bytes (get_or ps i p))
    → length (flat_map page_bytes (take j (set ps i p))) ≡ length (flat_map page_bytes (take j ps))
lengths_set [] i j p e = refl
lengths_set (x ∷ xs) i zero p e = grind (arith, common_steps)
lengths_set (x ∷ xs) zero (suc j) p e = rw (length-append, length-append) (omega arith)
lengths_set (x ∷ xs) (suc i) (suc j) p e = rw (length-append, length-append) (omega (arith, lengths_set xs i j p e))

pub paged_set : (s : ℕ) (ps : List Page) (n i : ℕ) (p d : Page) → WellPaged s ps n → d ≡ get_or ps i d → i < length ps → length (page_bytes p) ≡ length (page_bytes d) → WellPaged s (set ps i p) n
paged_set s ps n i p d w r h e =
    let f : length (page_bytes p) ≡ length (page_bytes (get_or ps i p)) = e ∙ ap (λ x. length (page_bytes x)) (r ∙ get_or_default ps i d p h) in
    record {
      starts = λ j l. let m : j < length ps = omega (arith, length-set ps i p) in lengths_set ps i j p f ∙ w.starts j m;
      total =
          ap (λ x. length (flat_map page_bytes x)) (sym (take_all (length ps) (set ps i p) (rw length-set (omega arith))))
          ∙ lengths_set ps i (length ps) p f
          ∙ ap (λ x. length (flat_map page_bytes x)) (take_all (length ps) ps (omega arith))
          ∙ w.total;
      cover = rw length-set w.cover;
      few = rw length-set w.few;
    }

-- a call that wrote a part of one page
pub part_pasted : (s : ℕ) (ps : List Page) (n at k : ℕ) (t : List ℕ) (p d : Page) → 0 < s → WellPaged s ps n → 0 < k → k ≤ length t → at + k ≤ n → at % s + k ≤ s
    → d ≡ get_or ps (at / s) d → page_bytes p ≡ paste (page_bytes d) (at % s) t k
    → flat_map page_bytes (set ps (at / s) p) ≡ paste (flat_map page_bytes ps) at t k
part_pasted s ps n at k t p d z w some long inside one r e =
    let e' = e ∙ ap (λ x. paste (page_bytes x) (at % s) t k) r in
    let f : s * (at / s) + at % s ≡ at = omega arith in
    paste_set s ps n (at / s) (at % s) k t p d w (page_there s ps n at z w (omega arith)) (page_room s ps n at k d z w some inside one) long e'
    ∙ ap (λ x. paste (flat_map page_bytes ps) x t k) f

-- and one that left the page as it was
pub part_kept : (ps : List Page) (i : ℕ) (p d : Page) → i < length ps → d ≡ get_or ps i d → page_bytes p ≡ page_bytes d
    → flat_map page_bytes (set ps i p) ≡ flat_map page_bytes ps
part_kept ps i p d h r e =
    split_set ps i p h
    ∙ ap (λ x. flat_map page_bytes (take i ps) ++ (x ++ flat_map page_bytes (drop (i + 1) ps))) (e ∙ ap page_bytes r)
    ∙ sym (split_at ps i d h)

pub part_read : (s : ℕ) (ps : List Page) (n at k : ℕ) (d : Page) → 0 < s → WellPaged s ps n → 0 < k → at + k ≤ n → at % s + k ≤ s
    → d ≡ get_or ps (at / s) d
    → take k (drop (at % s) (page_bytes d)) ≡ take k (drop at (flat_map page_bytes ps))
part_read s ps n at k d z w some inside one r =
    let f : s * (at / s) + at % s ≡ at = omega arith in
    let i = page_there s ps n at z w (omega arith) in
    let room = page_room s ps n at k d z w some inside one in
    let before = flat_map page_bytes (take (at / s) ps) in
    let here = page_bytes (get_or ps (at / s) d) in
    let after = flat_map page_bytes (drop (at / s + 1) ps) in
    let long : k ≤ length (drop (at % s) here) = omega (arith, length-drop (at % s) here) in
    ap (λ x. take k (drop (at % s) (page_bytes x))) r
    ∙ sym (take-append-le k (drop (at % s) here) after long)
    ∙ ap (take k) (sym (drop-append-le (at % s) here after (omega arith)))
    ∙ ap (take k) (sym (drop-append-add before (here ++ after) (at % s)))
    ∙ ap (λ j. take k (drop (j + at % s) (before ++ (here ++ after)))) (w.starts (at / s) i)
    ∙ ap (λ j. take k (drop j (before ++ (here ++ after)))) f
    ∙ ap (λ x. take k (drop at x)) (sym (split_at ps (at / s) d i))

-- a page keeps its size, whatever was written into it
pub size_kept : {T E : Type 0} (r : Result T E) (p d : Page) (at k : ℕ) (t : List ℕ) → at + k ≤ length (page_bytes d) → k ≤ length t
    → OnOk r (page_bytes p ≡ paste (page_bytes d) at t k) → OnErr r (page_bytes p ≡ page_bytes d) → length (page_bytes p) ≡ length (page_bytes d)
size_kept (Ok v) p d at k t room long ok err = ap length ok ∙ length-paste (page_bytes d) at t k room long
size_kept (Err e) p d at k t room long ok err = ap length err

-- ---- a call that changes a part of one page: d is the page before and p after, v the bytes before

pub part_paged : {T E : Type 0} (s : ℕ) (ps : List Page) (n at k : ℕ) (t : List ℕ) (p d : Page) (v : List ℕ) (r : Result T E) → 0 < s → WellPaged s ps n
    → flat_map page_bytes ps ≡ v → 0 < k → k ≤ length t → at + k ≤ length v → at % s + k ≤ s → d ≡ get_or ps (at / s) d
    → OnOk r (page_bytes p ≡ paste (page_bytes d) (at % s) t k) → OnErr r (page_bytes p ≡ page_bytes d) → WellPaged s (set ps (at / s) p) n
part_paged s ps n at k t p d v r z w view some long inside one e ok err =
    let all : at + k ≤ n = omega (arith, w.total, ap length view) in
    let room = page_room s ps n at k d z w some all one in
    let size = ap (λ x. length (page_bytes x)) e in
    paged_set s ps n (at / s) p d w e (page_there s ps n at z w (omega arith)) (size_kept r p d (at % s) k t (omega arith) long ok err)

pub part_ok : {T E : Type 0} (s : ℕ) (ps : List Page) (n at k : ℕ) (t : List ℕ) (p d : Page) (v : List ℕ) (r : Result T E) → 0 < s → WellPaged s ps n
    → flat_map page_bytes ps ≡ v → 0 < k → k ≤ length t → at + k ≤ length v → at % s + k ≤ s → d ≡ get_or ps (at / s) d
    → OnOk r (page_bytes p ≡ paste (page_bytes d) (at % s) t k) → OnOk r (flat_map page_bytes (set ps (at / s) p) ≡ paste v at t k)
part_ok s ps n at k t p d v r z w view some long inside one e ok =
    let all : at + k ≤ n = omega (arith, w.total, ap length view) in
    on_ok_weaker r (λ h. part_pasted s ps n at k t p d z w some long all one e h ∙ ap (λ x. paste x at t k) view) ok

pub part_err : {T E : Type 0} (s : ℕ) (ps : List Page) (n at k : ℕ) (p d : Page) (v : List ℕ) (r : Result T E) → 0 < s → WellPaged s ps n
    → flat_map page_bytes ps ≡ v → 0 < k → at + k ≤ length v → d ≡ get_or ps (at / s) d
    → OnErr r (page_bytes p ≡ page_bytes d) → OnErr r (flat_map page_bytes (set ps (at / s) p) ≡ v)
part_err s ps n at k p d v r z w view some inside e err =
    let all : at + k ≤ n = omega (arith, w.total, ap length view) in
    on_err_weaker r (λ h. part_kept ps (at / s) p d (page_there s ps n at z w (omega arith)) e h ∙ view) err

-- the same part, of a page e that reads as page q of the bytes u
pub source_part : (s : ℕ) (qs : List Page) (m from k : ℕ) (e q : Page) (u : List ℕ) → 0 < s → WellPaged s qs m → flat_map page_bytes qs ≡ u
    → 0 < k → from + k ≤ length u → from % s + k ≤ s → page_bytes e ≡ page_bytes q → q ≡ get_or qs (from / s) q
    → take k (drop (from % s) (page_bytes e)) ≡ take k (drop from u)
source_part s qs m from k e q u z w view some inside one same r =
    let all : from + k ≤ m = omega (arith, w.total, ap length view) in
    ap (λ x. take k (drop (from % s) x)) same
    ∙ part_read s qs m from k q z w some all one r
    ∙ ap (λ x. take k (drop from x)) view

pub copied_ok : {T E : Type 0} (s : ℕ) (qs : List Page) (m at from k : ℕ) (p d e q : Page) (u : List ℕ) (r : Result T E) → 0 < s → WellPaged s qs m
    → flat_map page_bytes qs ≡ u → 0 < k → from + k ≤ length u → from % s + k ≤ s → page_bytes e ≡ page_bytes q → q ≡ get_or qs (from / s) q
    → OnOk r (page_bytes p ≡ paste (page_bytes d) (at % s) (drop (from % s) (page_bytes e)) k)
    → OnOk r (page_bytes p ≡ paste (page_bytes d) (at % s) (drop from u) k)
copied_ok s qs m at from k p d e q u r z w view some inside one same here ok =
    on_ok_weaker r
    (λ h. h ∙ paste_same (page_bytes d) (at % s) (drop (from % s) (page_bytes e)) (drop from u) k (source_part s qs m from k e q u z w view some inside one same here))
    ok

-- a part that lies in one page of the bytes lies in a page that reads as it does
pub part_room : (s : ℕ) (ps : List Page) (n at k : ℕ) (d q : Page) (v : List ℕ) → 0 < s → WellPaged s ps n → flat_map page_bytes ps ≡ v
    → 0 < k → at + k ≤ length v → at % s + k ≤ s → page_bytes d ≡ page_bytes q → q ≡ get_or ps (at / s) q → at % s + k ≤ length (page_bytes d)
part_room s ps n at k d q v z w view some inside one same r =
    let all : at + k ≤ n = omega (arith, w.total, ap length view) in
    let size = ap length same in
    let here = ap (λ x. length (page_bytes x)) r in
    let room = page_room s ps n at k q z w some all one in
    omega arith

pub page_below : (s : ℕ) (ps : List Page) (n i : ℕ) → WellPaged s ps n → s * i < n → i < length ps
page_below s ps n i w h = let c = w.cover in grind arith
