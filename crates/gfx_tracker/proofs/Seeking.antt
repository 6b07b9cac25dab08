-- Going over the ids of what an object owns, in search of objects.
use Rattle.std.proofs.Common.{◌≡◌, ℕ, suc, ◌+◌, ◌-◌, ◌<◌, ◌≢◌, ◌==◌, ◌&&◌, Bool, true, false, List, [], ◌∷◌, ◌++◌, Option, Some, None, Result, Ok, Err, cond, refl, ap, sym, ◌∙◌, arith}
use Rattle.std.specs.Prelude.{option_and_then, find, filter, flat_map, slice_get}
use Rattle.std.specs.List.{range_with_len}
use Rattle.std.specs.Result.{result_ok, IfOk, IfErr}
use Rattle.std.specs.FinMap as map
use Rattle.gfx_table.specs.Slots.{least_above}
use Rattle.gfx_table.specs.Values.{get-with_rows}
use Rattle.gfx_table.specs.Rows.{ids, ids_above, ids-with_rows, above-zero, above-step, above-end}
use Rattle.gfx_model.specs.Steps.{Object as Made}
use Rattle.gfx_model.specs.Questions.{is_owned, passes}
use Rattle.gfx_model.specs.Views.{is_one}
use Rattle.gfx_objects.specs.declared.object.Object.{Object}
use Rattle.gfx_objects.specs.Objects.{Kept, answers, IsSound, owner_mark, of_owner}
use Rattle.gfx_objects.proofs.Asked.{owner_answered}
use Rattle.gfx_tracker.specs.declared.sought.Sought.{Sought}
use Rattle.gfx_tracker.specs.Sought.{is_sought, sought_in}

-- ---- lists

-- what passes the narrower test passes the wider one
filter_within : (p q : ℕ → Bool) (xs : List ℕ) → ((x : ℕ) → p x ≡ true → q x ≡ true) → filter p (filter q xs) ≡ filter p xs
filter_within p q [] wider = refl
filter_within p q (x ∷ xs) wider = by (q x) (p x) refl refl (filter_within p q xs wider)
  where
    by : (a b : Bool) → q x ≡ a → p x ≡ b → filter p (filter q xs) ≡ filter p xs → filter p (cond a (x ∷ filter q xs) (filter q xs)) ≡ cond b (x ∷ filter p xs) (filter p xs)
    by true b qa pb rest = ap (λ t. cond t (x ∷ filter p (filter q xs)) (filter p (filter q xs))) pb ∙ ap (λ l. cond b (x ∷ l) l) rest
    by false true qa pb rest = let w = wider x pb in absurd cc
    by false false qa pb rest = rest

first_there : (p : ℕ → Bool) (xs : List ℕ) → slice_get (filter p xs ++ []) 0 ≡ find p xs
first_there p [] = refl
first_there p (x ∷ xs) = by (p x) refl (first_there p xs)
  where
    by : (t : Bool) → p x ≡ t → slice_get (filter p xs ++ []) 0 ≡ find p xs → slice_get (filter p (x ∷ xs) ++ []) 0 ≡ find p (x ∷ xs)
    by true is rest = ap (λ t. slice_get (cond t (x ∷ filter p xs) (filter p xs) ++ []) 0) is ∙ ap (λ t. cond t (Some x) (find p xs)) (sym is)
    by false is rest = ap (λ t. slice_get (cond t (x ∷ filter p xs) (filter p xs) ++ []) 0) is ∙ rest ∙ ap (λ t. cond t (Some x) (find p xs)) (sym is)

-- the first one, told by what is at place 0
pub first_is : (p : ℕ → Bool) (xs : List ℕ) (r : Result ℕ ℕ) → IfOk r (λ id. (more : List ℕ) → slice_get (filter p xs ++ more) 0 ≡ Some id)
    → IfErr r (λ left. (more : List ℕ) → slice_get (filter p xs ++ more) 0 ≡ slice_get more left) → result_ok r ≡ find p xs
first_is p xs (Ok id) found passed = sym (found []) ∙ first_there p xs
first_is p xs (Err left) found passed = sym (passed []) ∙ first_there p xs

-- ---- the ids of what is owned

module _ (k : Kept) (owner : ℕ) (s : Sought) where
  -- those that are sought, above an id
  abbrev pub sought_above : ℕ → List ℕ
  sought_above after = filter (is_one (answers k) (is_sought s)) (ids_above after (of_owner owner k.rows))

  no_zero : IsSound k → map.get (of_owner owner k.rows) 0 ≡ None
  no_zero sound = get-with_rows (owner_mark owner) k.rows 0 ∙ by (map.get k.rows 0) refl
    where
      by : (o : Option Object) → map.get k.rows 0 ≡ o → option_and_then (owner_mark owner 0) o ≡ None
      by None none = refl
      by (Some o) some = let above = (sound.row 0 o some).not_zero in absurd (omega (arith, above))

  module _ (of : (o : Made) → is_sought s o ≡ true → (is_owned o.detail && owner == o.parent) ≡ true) where
    owned_sought : (x : ℕ) → is_one (answers k) (is_sought s) x ≡ true → passes (λ o. is_owned o.detail && owner == o.parent) ((answers k).live x) ≡ true
    owned_sought x is = by ((answers k).live x) is
      where
        by : (o : Option Made) → passes (is_sought s) o ≡ true → passes (λ o. is_owned o.detail && owner == o.parent) o ≡ true
        by None is = is
        by (Some o) is = of o is

    pub all_sought : IsSound k → sought_above 0 ≡ sought_in (answers k) s
    unfolding answers
    all_sought sound =
        ap (filter (is_one (answers k) (is_sought s))) (above-zero (of_owner owner k.rows) (no_zero sound) ∙ ids-with_rows (owner_mark owner) k.rows
        ∙ ap (λ f. filter f (ids k.rows)) (λ i x. (owner_answered k owner x) i))
        ∙ filter_within (is_one (answers k) (is_sought s)) (λ x. passes (λ o. is_owned o.detail && owner == o.parent) ((answers k).live x)) (ids k.rows) owned_sought

  module _ (after id : ℕ) (next : least_above (of_owner owner k.rows) after ≡ Some id) where
    step : sought_above after ≡ cond (is_one (answers k) (is_sought s) id) (id ∷ sought_above id) (sought_above id)
    step = ap (filter (is_one (answers k) (is_sought s))) (above-step (of_owner owner k.rows) after id next)

    pub step_met : is_one (answers k) (is_sought s) id ≡ true → sought_above after ≡ id ∷ sought_above id
    step_met met = step ∙ ap (λ t. cond t (id ∷ sought_above id) (sought_above id)) met

    pub step_past : is_one (answers k) (is_sought s) id ≡ false → sought_above after ≡ sought_above id
    step_past not_met = step ∙ ap (λ t. cond t (id ∷ sought_above id) (sought_above id)) not_met

    pub at_front : is_one (answers k) (is_sought s) id ≡ true → (left : ℕ) → left ≡ 0 → (more : List ℕ) → slice_get (sought_above after ++ more) left ≡ Some id
    at_front met left none more = ap (λ l. slice_get (l ++ more) left) (step_met met) ∙ ap (slice_get (id ∷ (sought_above id ++ more))) none

    pub behind_front : is_one (answers k) (is_sought s) id ≡ true → (left : ℕ) → left ≢ 0 → (more : List ℕ)
        → slice_get (sought_above after ++ more) left ≡ slice_get (sought_above id ++ more) (left - 1)
    behind_front met left some more =
        let one_less : left ≡ suc (left - 1) = omega arith in
        ap (λ l. slice_get (l ++ more) left) (step_met met) ∙ ap (slice_get (id ∷ (sought_above id ++ more))) one_less

  pub at_end : (after : ℕ) → least_above (of_owner owner k.rows) after ≡ None → sought_above after ≡ []
  at_end after none = ap (filter (is_one (answers k) (is_sought s))) (above-end (of_owner owner k.rows) after none)

-- ---- lists behind one another

pub flat_step : (f : ℕ → List ℕ) (n index : ℕ) → index < n → flat_map f (range_with_len index (n - index)) ≡ f index ++ flat_map f (range_with_len (index + 1) (n - (index + 1)))
flat_step f n index below =
    let one_less : n - index ≡ suc (n - (index + 1)) = omega arith in
    ap (λ m. flat_map f (range_with_len index m)) one_less
