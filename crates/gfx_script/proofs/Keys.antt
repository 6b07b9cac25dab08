-- Names have the same key just where they are the same.
use Rattle.std.proofs.Common.{◌≡◌, ℕ, ◌+◌, ◌*◌, ◌<◌, ◌≤◌, zero, suc, nat_eq, ◌&&◌, Bool, true, false, List, [], ◌∷◌, ◌++◌, length, reverse, take, drop, refl, sym, ap, ◌∙◌, arith}
use Rattle.std.specs.List.{AllByRecursion, list_all}
use Rattle.std.specs.Str.{bytes_eq}
use Rattle.std.specs.Cmp.{both_tied, unsigned_ties}
use Rattle.std.specs.Cmp.Lexicographic.{bytes_decides}
use Rattle.std.specs.Ordering.{is_eq}
use mathlib.Core.List.{reverse_aux}
use Rattle.std.proofs.lemmas.Bool.{and_parts, and_from, eqb-true, eq-eqb}
use Rattle.std.proofs.lemmas.Bool.Decides.{nat_tests}
use Rattle.std.proofs.lemmas.List.{reverse-reverse, take-append-drop, length-drop}
use Rattle.gfx_script_model.specs.Names.{is_letter_or_digit, is_name}
use Rattle.gfx_text_grammar.proofs.StyleLaws.{name_letters, name_long}
use Rattle.gfx_script.specs.Keys.{packed, key_of, key_cmp}
use Rattle.gfx_script.specs.declared.key.Key.{Key}

-- ---- letters as one number

-- a byte that isn't 0
abbrev IsLetter : ℕ → Type 0
IsLetter c = (1 ≤ c) × (c < 256)

-- the number whose lowest digit is the first letter
abbrev low : List ℕ → ℕ
low [] = 0
low (c ∷ cs) = 256 * low cs + c

packed_low : (cs r : List ℕ) → packed (low r) cs ≡ low (reverse_aux cs r)
packed_low [] r = refl
packed_low (c ∷ cs) r = packed_low cs (c ∷ r)

reverse_letters : (cs r : List ℕ) → AllByRecursion IsLetter cs → AllByRecursion IsLetter r → AllByRecursion IsLetter (reverse_aux cs r)
reverse_letters [] r h k = k
reverse_letters (c ∷ cs) r h k = reverse_letters cs (c ∷ r) h.1 (h.0, k)

low_same : (xs ys : List ℕ) → AllByRecursion IsLetter xs → AllByRecursion IsLetter ys → low xs ≡ low ys → xs ≡ ys
low_same [] [] h k e = refl
low_same [] (y ∷ ys) h k e = absurd (omega (arith, k.0.0, e))
low_same (x ∷ xs) [] h k e = absurd (omega (arith, h.0.0, e))
low_same (x ∷ xs) (y ∷ ys) h k e =
    let first : x ≡ y = omega (arith, h.0.1, k.0.1, e) in
    let rest : low xs ≡ low ys = omega (arith, h.0.1, k.0.1, e) in
    λ i. first i ∷ low_same xs ys h.1 k.1 rest i

packed_same : (xs ys : List ℕ) → AllByRecursion IsLetter xs → AllByRecursion IsLetter ys → packed 0 xs ≡ packed 0 ys → xs ≡ ys
packed_same xs ys h k e =
    let turned : reverse xs ≡ reverse ys =
    low_same (reverse xs) (reverse ys) (reverse_letters xs [] h tt) (reverse_letters ys [] k tt) (sym (packed_low xs []) ∙ e ∙ packed_low ys []) in
    sym (reverse-reverse xs) ∙ ap reverse turned ∙ reverse-reverse ys

-- ---- a name in four parts

take_letters : (n : ℕ) (cs : List ℕ) → AllByRecursion IsLetter cs → AllByRecursion IsLetter (take n cs)
take_letters zero cs h = tt
take_letters (suc n) [] h = tt
take_letters (suc n) (c ∷ cs) h = (h.0, take_letters n cs h.1)

drop_letters : (n : ℕ) (cs : List ℕ) → AllByRecursion IsLetter cs → AllByRecursion IsLetter (drop n cs)
drop_letters zero cs h = h
drop_letters (suc n) [] h = tt
drop_letters (suc n) (c ∷ cs) h = drop_letters n cs h.1

-- the first eight letters are the same, and so are the others
part_same : (xs ys : List ℕ) → AllByRecursion IsLetter xs → AllByRecursion IsLetter ys → packed 0 (take 8 xs) ≡ packed 0 (take 8 ys) → drop 8 xs ≡ drop 8 ys → xs ≡ ys
part_same xs ys h k first others =
    let front = packed_same (take 8 xs) (take 8 ys) (take_letters 8 xs h) (take_letters 8 ys k) first in
    sym (take-append-drop 8 xs) ∙ (λ i. front i ++ others i) ∙ take-append-drop 8 ys

short : (cs : List ℕ) → length cs ≤ 8 → drop 8 cs ≡ []
short cs few = nothing (drop 8 cs) (omega (arith, few, length-drop 8 cs))
  where
    nothing : (xs : List ℕ) → length xs ≤ 0 → xs ≡ []
    nothing [] h = refl
    nothing (x ∷ xs) h = absurd (omega (arith, h))

key_same : (xs ys : List ℕ) → AllByRecursion IsLetter xs → AllByRecursion IsLetter ys → length xs ≤ 32 → length ys ≤ 32 → key_of xs ≡ key_of ys → xs ≡ ys
unfolding key_of
key_same xs ys h k few_x few_y e =
    let x2 = drop 8 xs in let x3 = drop 8 x2 in let x4 = drop 8 x3 in
    let y2 = drop 8 ys in let y3 = drop 8 y2 in let y4 = drop 8 y3 in
    let end_x : drop 8 x4 ≡ [] = short x4 (omega (arith, few_x, length-drop 8 xs, length-drop 8 x2, length-drop 8 x3)) in
    let end_y : drop 8 y4 ≡ [] = short y4 (omega (arith, few_y, length-drop 8 ys, length-drop 8 y2, length-drop 8 y3)) in
    let h2 = drop_letters 8 xs h in let h3 = drop_letters 8 x2 h2 in let h4 = drop_letters 8 x3 h3 in
    let k2 = drop_letters 8 ys k in let k3 = drop_letters 8 y2 k2 in let k4 = drop_letters 8 y3 k3 in
    part_same xs ys h k (ap (λ (z : Key). z.first) e)
    (part_same x2 y2 h2 k2 (ap (λ (z : Key). z.second) e)
    (part_same x3 y3 h3 k3 (ap (λ (z : Key). z.third) e)
    (part_same x4 y4 h4 k4 (ap (λ (z : Key). z.fourth) e) (end_x ∙ sym end_y))))

-- ---- keys in order

-- keys that tie have the same parts
key_tie : (x y : Key) → (nat_eq x.first y.first && (nat_eq x.second y.second && (nat_eq x.third y.third && nat_eq x.fourth y.fourth))) ≡ is_eq (key_cmp x y)
key_tie x y =
    both_tied _ _ _ _ (unsigned_ties x.first y.first)
    (both_tied _ _ _ _ (unsigned_ties x.second y.second) (both_tied _ _ _ _ (unsigned_ties x.third y.third) (unsigned_ties x.fourth y.fourth)))

-- keys that tie are the same
tied_same : (x y : Key) → is_eq (key_cmp x y) ≡ true → x ≡ y
tied_same x y e =
    let one = and_parts _ _ (key_tie x y ∙ e) in
    let two = and_parts _ _ one.1 in
    let three = and_parts _ _ two.1 in
    let first : x.first ≡ y.first = eqb-true _ _ one.0 in
    let second : x.second ≡ y.second = eqb-true _ _ two.0 in
    let third : x.third ≡ y.third = eqb-true _ _ three.0 in
    let fourth : x.fourth ≡ y.fourth = eqb-true _ _ three.1 in
    λ i. record { first = first i; second = second i; third = third i; fourth = fourth i }

-- a key ties with itself
self_tied : (x : Key) → is_eq (key_cmp x x) ≡ true
self_tied x =
    sym (key_tie x x)
    ∙ and_from _ _ (eq-eqb x.first x.first refl) (and_from _ _ (eq-eqb x.second x.second refl) (and_from _ _ (eq-eqb x.third x.third refl) (eq-eqb x.fourth x.fourth refl)))

-- ---- names

letters : (cs : List ℕ) → list_all is_letter_or_digit cs ≡ true → AllByRecursion IsLetter cs
letters [] h = tt
letters (c ∷ cs) h =
    let p = and_parts (is_letter_or_digit c) (list_all is_letter_or_digit cs) h in
    let few : c < 256 = grind (arith, nat_tests, p.0) in
    let some : 1 ≤ c = grind (arith, nat_tests, p.0) in
    ((some, few), letters cs p.1)

-- the keys of two names tie just where the names are the same
pub keys_tie : (xs ys : List ℕ) → is_name xs ≡ true → is_name ys ≡ true → is_eq (key_cmp (key_of xs) (key_of ys)) ≡ bytes_eq xs ys
keys_tie xs ys h k = by (bytes_eq xs ys) refl
  where
    by : (b : Bool) → bytes_eq xs ys ≡ b → is_eq (key_cmp (key_of xs) (key_of ys)) ≡ b
    by true e = ap (λ z. is_eq (key_cmp (key_of xs) (key_of z))) (sym ((bytes_decides xs ys).0 e)) ∙ self_tied (key_of xs)
    by false e = not_tied (is_eq (key_cmp (key_of xs) (key_of ys))) refl
      where
        not_tied : (t : Bool) → is_eq (key_cmp (key_of xs) (key_of ys)) ≡ t → t ≡ false
        not_tied false is = refl
        not_tied true is =
            let same = key_same xs ys (letters xs (name_letters xs h)) (letters ys (name_letters ys k)) (name_long xs h).1 (name_long ys k).1 (tied_same (key_of xs) (key_of ys) is) in
            let yes : bytes_eq xs ys ≡ true = (bytes_decides xs ys).1 same in
            absurd (let no : false ≡ true = sym e ∙ yes in cc)
