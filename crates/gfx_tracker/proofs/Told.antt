-- What is kept for each live object of some kinds, after a creation and after an end.
use Rattle.std.proofs.Common.{◌≡◌, ℕ, ◌==◌, Bool, true, false, ◌&&◌, ◌||◌, Option, Some, None, if◌then◌else◌, refl, ap, sym, ◌∙◌}
use Rattle.std.specs.Option.{option_map_or}
use Rattle.gfx_model.specs.Steps.{Detail, Object}
use Rattle.gfx_model.specs.Questions.{passes, goes_with, after_end, is_owned}

-- the answer for the object of this id, or the plain one
abbrev pub told : {Y : Type 0} → Y → (Detail → Y) → Option Object → Y
told none h o = option_map_or (λ o. h o.detail) o none

module _ {Y : Type 0} (none : Y) (h : Detail → Y) (live : ℕ → Option Object) (q : ℕ → Y) (is : (x : ℕ) → q x ≡ told none h (live x)) where
  -- a new object
  pub told_made : (id p : ℕ) (d : Detail) (r : ℕ → Y) → ((x : ℕ) → r x ≡ (if id == x then h d else q x)) → (x : ℕ) →
      r x ≡ told none h (if id == x then Some (record { parent = p; detail = d }) else live x)
  told_made id p d r made x = made x ∙ by (id == x)
    where
      by : (b : Bool) → (if b then h d else q x) ≡ told none h (if b then Some (record { parent = p; detail = d }) else live x)
      by true = refl
      by false = is x

  -- an object that ends with what it owns, which has nothing kept
  module _ (plain : (d : Detail) → is_owned d ≡ true → h d ≡ none) (gone : ℕ) where
    stays : (x : ℕ) (o : Option Object) → (gone == x) ≡ false → told none h o ≡ told none h (after_end gone x o)
    stays x None other = refl
    stays x (Some o) other = by (gone == x) (is_owned o.detail) (gone == o.parent) other (plain o.detail)
      where
        by : (b c d : Bool) → b ≡ false → (c ≡ true → h o.detail ≡ none) → h o.detail ≡ told none h (if b || c && d then None else Some o)
        by true c d other plain = absurd cc
        by false true true other plain = plain refl
        by false true false other plain = refl
        by false false d other plain = refl

    goes : (x : ℕ) (o : Option Object) → (gone == x) ≡ true → none ≡ told none h (after_end gone x o)
    goes x None same = refl
    goes x (Some o) same = ap (λ b. told none h (if b || is_owned o.detail && gone == o.parent then None else Some o)) (sym same)

    pub told_ended : (r : ℕ → Y) → ((x : ℕ) → r x ≡ (if gone == x then none else q x)) → (x : ℕ) → r x ≡ told none h (after_end gone x (live x))
    told_ended r ended x = ended x ∙ by (gone == x) refl
      where
        by : (b : Bool) → (gone == x) ≡ b → (if b then none else q x) ≡ told none h (after_end gone x (live x))
        by true e = goes x (live x) e
        by false e = is x ∙ stays x (live x) e

    -- where it goes, nothing is kept, or it is the object itself
    pub plain_gone : (x : ℕ) → (gone == x) ≡ false → passes (goes_with gone x) (live x) ≡ true → q x ≡ none
    plain_gone x other e = is x ∙ by (live x) e
      where
        at : (o : Object) (b c d : Bool) → b ≡ false → (c ≡ true → h o.detail ≡ none) → (b || c && d) ≡ true → h o.detail ≡ none
        at o true c d other plain e = absurd cc
        at o false true d other plain e = plain refl
        at o false false d other plain e = absurd cc

        by : (l : Option Object) → passes (goes_with gone x) l ≡ true → told none h l ≡ none
        by None e = absurd cc
        by (Some o) e = at o (gone == x) (is_owned o.detail) (gone == o.parent) other (plain o.detail) e
