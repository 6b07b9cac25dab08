-- Ids that are put into records, one record after the other.
use Rattle.std.proofs.Common.{◌≡◌, ℕ, zero, suc, ◌+◌, ◌<◌, ◌≤◌, List, [], ◌∷◌, ◌++◌, map, flat_map, length, take, drop, get_or, refl, ap, ◌∙◌, arith, length-append}
use Rattle.std.proofs.lemmas.List.Concat.{flat_map-append}
use Rattle.gfx_script.specs.Puts.{TakesNamed}

module _ {X : Type 0} (named : X → List ℕ) (blank : X → X) where
  abbrev all_named : List X → List ℕ
  all_named xs = flat_map named xs

  parts : (xs : List X) (i : ℕ) (d : X) → i < length xs → xs ≡ take i xs ++ get_or xs i d ∷ drop (i + 1) xs
  parts [] i d l = absurd (omega arith)
  parts (x ∷ xs) zero d l = refl
  parts (x ∷ xs) (suc i) d l =
      ap (λ (z : List X). x ∷ z) (parts xs i d (omega arith))
      ∙ ap (λ n. x ∷ (take i xs ++ get_or xs i d ∷ drop n (x ∷ xs))) (let e : suc (i + 1) ≡ suc i + 1 = omega arith in e)

  -- there is room for the next record's ids
  pub room : (xs : List X) (i : ℕ) (d : X) (ids : List ℕ) (put : List X) (left : List ℕ) → i < length xs → length (all_named xs) ≤ length ids
      → TakesNamed (flat_map named) (map blank) (take i xs) ids put left → length (named (get_or xs i d)) ≤ length left
  room xs i d ids put left l few h =
      let x = get_or xs i d in
      let whole : length (all_named xs) ≡ length (all_named (take i xs)) + (length (named x) + length (all_named (drop (i + 1) xs))) =
      ap (λ (z : List X). length (all_named z)) (parts xs i d l) ∙ ap length (flat_map-append named (take i xs) (x ∷ drop (i + 1) xs))
      ∙ length-append (all_named (take i xs)) (named x ++ all_named (drop (i + 1) xs)) ∙ ap (λ n. length (all_named (take i xs)) + n) (length-append (named x) (all_named (drop (i + 1) xs))) in
      let given : length ids ≡ length (all_named put) + length left = ap length h.front ∙ length-append (all_named put) left in
      omega (arith, whole, given, few, h.as_many)
