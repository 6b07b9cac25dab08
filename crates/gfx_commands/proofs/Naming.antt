-- The users of resources, of one resource of a command after the other.
use Rattle.std.proofs.Common.{◌≡◌, ℕ, zero, suc, ◌+◌, ◌<◌, ◌≤◌, List, [], ◌∷◌, length, take, get_or, subst, ◌==◌, Bool, true, false, ◌&&◌, ◌||◌, Some, if◌then◌else◌, refl, ap, ◌∙◌, arith}
use Rattle.std.specs.Ordering.{nat_cmp}
use Rattle.std.specs.FinMap.{FinMap}
use Rattle.std.proofs.lemmas.Bool.Decides.{nat_tests}
use Rattle.std.specs.Prelude.{slice_get}
use Rattle.std.specs.List.{list_all}
use Rattle.std.proofs.lemmas.List.Folds.{list_any_more, list_all_more}
use Rattle.gfx_table.specs.Slots.{Slots}
use Rattle.gfx_table.specs.Groups.{is_member, room_in}
use Rattle.gfx_model.specs.Checks.{is_among}
use Rattle.gfx_commands.specs.Users.{HasRoom}

pub found_at : (xs : List ℕ) (i r : ℕ) → Some r ≡ slice_get xs i → (i < length xs) × (get_or xs i 0 ≡ r)
found_at [] i r is = cc
found_at (x ∷ xs) zero r is = (omega arith, cc)
found_at (x ∷ xs) (suc i) r is = let rest = found_at xs i r is in (omega (arith, rest.0), rest.1)

pub found_among : (xs : List ℕ) (i r : ℕ) → Some r ≡ slice_get xs i → is_among r xs ≡ true
found_among [] i r is = cc
found_among (x ∷ xs) zero r is = let same : x ≡ r = cc in grind (arith, nat_tests, same)
found_among (x ∷ xs) (suc i) r is = let rest = found_among xs i r is in grind (arith, rest)

pub among_more : (xs : List ℕ) (i r x : ℕ) → Some r ≡ slice_get xs i → is_among x (take (i + 1) xs) ≡ (is_among x (take i xs) || (r == x))
among_more xs i r x is =
    let at = found_at xs i r is in
    list_any_more (λ y. y == x) xs i 0 at.0 ∙ ap (λ y. is_among x (take i xs) || (y == x)) at.1

-- ---- what each resource passes

module _ (p : ℕ → Bool) where
  pub all_more : (xs : List ℕ) (i r : ℕ) → Some r ≡ slice_get xs i → list_all p (take i xs) ≡ true → p r ≡ true → list_all p (take (i + 1) xs) ≡ true
  all_more xs i r is all here =
      let at = found_at xs i r is in
      let more = list_all_more p xs i 0 at.0 in
      let same = ap p at.1 in
      grind (arith, more, same, all, here)

  pub one_fails : (xs : List ℕ) (i r : ℕ) → Some r ≡ slice_get xs i → p r ≡ false → false ≡ list_all p xs
  one_fails [] i r is fails = cc
  one_fails (x ∷ xs) zero r is fails = let same : x ≡ r = cc in let at = ap p same in grind (arith, at, fails)
  one_fails (x ∷ xs) (suc i) r is fails = let rest = one_fails xs i r is fails in grind (arith, rest)

-- ---- room for one more user of each resource

module _ (m n : FinMap nat_cmp (Slots (Unit {0}))) (xs : List ℕ) (i r : ℕ) (is : Some r ≡ slice_get xs i) where
  pub room_more : ((x : ℕ) → is_among x (take i xs) ≡ true → 1 ≤ room_in m x) → 1 ≤ room_in n r → ((x : ℕ) → room_in m x ≤ room_in n x)
      → (x : ℕ) → is_among x (take (i + 1) xs) ≡ true → 1 ≤ room_in n x
  room_more room here grown x among = cases (is_among x (take i xs)) (r == x) refl refl
    where
      cases : (a b : Bool) → is_among x (take i xs) ≡ a → (r == x) ≡ b → 1 ≤ room_in n x
      cases true b e f =
          let old = room x e in
          let more = grown x in
          omega (arith, old, more)
      cases false true e f = let at : r ≡ x = grind (arith, nat_tests, f) in subst (λ x. 1 ≤ room_in n x) at here
      cases false false e f = let more = among_more xs i r x is in absurd (grind (arith, e, f, more, among))

  module _ (cb : ℕ) (now : is_member n ≡ (λ x y. (r == x && cb == y) || is_member m x y)) where
    pub room_left : HasRoom m cb xs → ((x : ℕ) → room_in m x ≤ room_in n x + (if r == x then 1 else 0)) → HasRoom n cb xs
    room_left room others x among none = cases (r == x) refl
      where
        at : is_member n x cb ≡ ((r == x && cb == cb) || is_member m x cb)
        at = ap (λ u. u x cb) now

        cases : (b : Bool) → (r == x) ≡ b → 1 ≤ room_in n x
        cases true f = let a = at in absurd (grind (arith, nat_tests, a, f, none))
        cases false f =
            let a = at in
            let old = room x among (grind (arith, a, f, none)) in
            let same = others x in
            let less : room_in m x ≤ room_in n x = grind (arith, f, same) in
            omega (arith, old, less)

    pub users_more : (first : ℕ → ℕ → Bool) → is_member m ≡ (λ x y. (cb == y && is_among x (take i xs)) || first x y)
        → is_member n ≡ (λ x y. (cb == y && is_among x (take (i + 1) xs)) || first x y)
    users_more first old = λ j x y. (each x y) j
      where
        each : (x y : ℕ) → is_member n x y ≡ ((cb == y && is_among x (take (i + 1) xs)) || first x y)
        each x y =
            let a = ap (λ u. u x y) old in
            let b = ap (λ u. u x y) now in
            let more = among_more xs i r x is in
            grind (arith, a, b, more)

-- ---- a buffer that goes, from one resource after the other

module _ (first users : ℕ → ℕ → Bool) (cb : ℕ) (xs : List ℕ) where
  pub forgotten_more : (i r : ℕ) → i < length xs → get_or xs i 0 ≡ r → (now : ℕ → ℕ → Bool) → users ≡ (λ x y. if cb == y && is_among x (take i xs) then false else first x y)
      → now ≡ (λ x y. if r == x && cb == y then false else users x y) → now ≡ (λ x y. if cb == y && is_among x (take (i + 1) xs) then false else first x y)
  forgotten_more i r there is now old new = λ j x y. (each x y) j
    where
      each : (x y : ℕ) → now x y ≡ (if cb == y && is_among x (take (i + 1) xs) then false else first x y)
      each x y =
          let a = ap (λ u. u x y) old in
          let b = ap (λ u. u x y) new in
          let more = list_any_more (λ y. y == x) xs i 0 there ∙ ap (λ y. is_among x (take i xs) || (y == x)) is in
          grind (arith, a, b, more)

  pub forgotten_all : ((x : ℕ) → first x cb ≡ true → is_among x xs ≡ true) → users ≡ (λ x y. if cb == y && is_among x xs then false else first x y)
      → users ≡ (λ x y. if cb == y then false else first x y)
  forgotten_all only is = is ∙ (λ j x y. (each x y) j)
    where
      each : (x y : ℕ) → (if cb == y && is_among x xs then false else first x y) ≡ (if cb == y then false else first x y)
      each x y =
          let all = only x in
          let same : cb ≡ y → first x cb ≡ first x y = ap (first x) in
          grind (arith, nat_tests, all, same)
