-- Command buffers that are reset or become invalid, one after the other.
use Rattle.std.proofs.Common.{◌≡◌, ℕ, ◌+◌, ◌<◌, ◌==◌, ◌&&◌, ◌||◌, Bool, true, false, List, length, take, get_or, if◌then◌else◌, refl, ap, sym, ◌∙◌, arith}
use Rattle.std.specs.List.{list_any}
use Rattle.std.proofs.lemmas.List.Folds.{list_any_more}
use Rattle.gfx_model.specs.Questions.{State, Buffer, new_buffer, is_kept, invalidated}
use Rattle.gfx_commands.specs.Recording.{names}

new_twice : (a b : Bool) (y : Buffer) → (if a then new_buffer else if b then new_buffer else y) ≡ (if b || a then new_buffer else y)
new_twice true true y = refl
new_twice true false y = refl
new_twice false b y = same b
  where
    same : (b : Bool) → (if b then new_buffer else y) ≡ (if b || false then new_buffer else y)
    same true = refl
    same false = refl

invalid_twice : (a b : Bool) (y : Buffer) → invalidated a (invalidated b y) ≡ invalidated (b || a) y
invalid_twice a false y = refl
invalid_twice a true y = cases (is_kept y.state) refl
  where
    cases : (t : Bool) → is_kept y.state ≡ t → invalidated a (invalidated true y) ≡ invalidated true y
    cases true e = grind (arith, e)
    cases false e = grind (arith, e)

-- what is invalid names the same resources
names_stay : (r : ℕ) (t : Bool) (y : Buffer) → names r (invalidated t y) ≡ names r y
names_stay r t y = by (t && is_kept y.state)
  where
    by : (k : Bool) → names r (if k then record y { state = State.invalid } else y) ≡ names r y
    by true = refl
    by false = refl

module _ (first now next : ℕ → Buffer) (xs : List ℕ) (i : ℕ) (below : i < length xs) where
  pub reset_more : now ≡ (λ x. if list_any (λ cb. cb == x) (take i xs) then new_buffer else first x) → next ≡ (λ x. if get_or xs i 0 == x then new_buffer else now x)
      → next ≡ (λ x. if list_any (λ cb. cb == x) (take (i + 1) xs) then new_buffer else first x)
  reset_more so_far is = λ j x. (each x) j
    where
      each : (x : ℕ) → next x ≡ (if list_any (λ cb. cb == x) (take (i + 1) xs) then new_buffer else first x)
      each x =
          ap (λ (f : ℕ → Buffer). f x) is ∙ ap (λ (f : ℕ → Buffer). if get_or xs i 0 == x then new_buffer else f x) so_far
          ∙ new_twice (get_or xs i 0 == x) (list_any (λ cb. cb == x) (take i xs)) (first x)
          ∙ ap (λ t. if t then new_buffer else first x) (sym (list_any_more (λ cb. cb == x) xs i 0 below))

  pub invalid_more : now ≡ (λ x. invalidated (list_any (λ r. names r (first x)) (take i xs)) (first x)) → next ≡ (λ x. invalidated (names (get_or xs i 0) (now x)) (now x))
      → next ≡ (λ x. invalidated (list_any (λ r. names r (first x)) (take (i + 1) xs)) (first x))
  invalid_more so_far is = λ j x. (each x) j
    where
      each : (x : ℕ) → next x ≡ invalidated (list_any (λ r. names r (first x)) (take (i + 1) xs)) (first x)
      each x =
          let before = list_any (λ r. names r (first x)) (take i xs) in
          let one = get_or xs i 0 in
          ap (λ (f : ℕ → Buffer). f x) is ∙ ap (λ (f : ℕ → Buffer). invalidated (names one (f x)) (f x)) so_far
          ∙ ap (λ t. invalidated t (invalidated before (first x))) (names_stay one before (first x))
          ∙ invalid_twice (names one (first x)) before (first x)
          ∙ ap (λ t. invalidated t (first x)) (sym (list_any_more (λ r. names r (first x)) xs i 0 below))
