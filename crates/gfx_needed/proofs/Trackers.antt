-- What is known of the answers of a tracker.
use Rattle.std.proofs.Common.{◌≡◌, ◌∙◌, ℕ, true, List, [], ◌∷◌, ◌==◌, ◌||◌, is_some, ◌⊎◌, inl, inr}
use Rattle.std.proofs.Math.Logic.{∥∥₁_elim}
use Rattle.std.proofs.Props.{props}
use Rattle.std.specs.Prelude.{Contains}
use Rattle.std.proofs.lemmas.Bool.{eqb-true, eq-eqb, or_cases, or_left, or_right}
use Rattle.gfx_model.specs.Checks.{is_among}
use Rattle.gfx_laws.specs.Lawful.{IsLawful}
use Rattle.gfx_lean_law.proofs.Contained.{contains_among, contains_none, contains_one, contains_split}
use Rattle.gfx_lean_law.specs.Computed.{stands_on}
use Rattle.gfx_tracker.specs.declared.tracker.Tracker.{Tracker}
use Rattle.gfx_tracker.specs.Tracker.{answers}
use Rattle.gfx_needed.specs.Grounds.{grounds}
use Rattle.gfx_needed.proofs.Grounds.{leads_to, led_to}

lawful : (t : Tracker) → ∥ IsLawful (answers t) [] ∥₁
unfolding answers
lawful t = t.lawful

-- an item is among those of its list
has_among : (xs : List ℕ) (x : ℕ) → Contains xs x → is_among x xs ≡ true
has_among [] x c = absurd (contains_none x c)
has_among (y ∷ ys) x c = elim (contains_split (y ∷ []) ys x c) [
  | inl c ↦ or_left (y == x) (is_among x ys) (eq-eqb y x (contains_one y x c))
  | inr c ↦ or_right (y == x) (is_among x ys) (has_among ys x c)
]

module _ (t : Tracker) where
  -- what is live is listed
  pub listed : (x : ℕ) → is_some ((answers t).live x) ≡ true → is_among x (answers t).ids ≡ true
  listed x live = ∥∥₁_elim (lawful t) (hlevel props) (λ (h : IsLawful (answers t) []). h.ids.exact x ∙ live)

  stands_among : (x y : ℕ) → is_some ((answers t).live x) ≡ true → Contains (stands_on (answers t) x) y →
      (is_some ((answers t).live y) ≡ true) × (is_among y (grounds (answers t) x) ≡ true)
  stands_among x y live c =
      ∥∥₁_elim (lawful t) (hlevel props)
      (λ (h : IsLawful (answers t) []). let r = led_to (answers t) h x y live c in (r.0, has_among (grounds (answers t) x) y r.1))

  -- what a live object depends on is live, and is led to
  pub stood_on : (x y : ℕ) → is_some ((answers t).live x) ≡ true → Contains (stands_on (answers t) x) y →
      (is_some ((answers t).live y) ≡ true) × Contains (grounds (answers t) x) y
  stood_on x y live c = let r = stands_among x y live c in (r.0, contains_among y (grounds (answers t) x) r.1)

  leads_among : (x y : ℕ) → is_some ((answers t).live x) ≡ true → is_some ((answers t).live y) ≡ true → Contains (grounds (answers t) x) y →
      ((x == y) || is_among y (stands_on (answers t) x)) ≡ true
  leads_among x y live there c =
      ∥∥₁_elim (lawful t) (hlevel props)
      (λ (h : IsLawful (answers t) []). elim (leads_to (answers t) h x y live there c) [
        | inl same ↦ or_left (x == y) (is_among y (stands_on (answers t) x)) (eq-eqb x y same)
        | inr c ↦ or_right (x == y) (is_among y (stands_on (answers t) x)) (has_among (stands_on (answers t) x) y c)
      ])

  -- and it leads to nothing else that is live, but to itself
  pub leads_on : (x y : ℕ) → is_some ((answers t).live x) ≡ true → is_some ((answers t).live y) ≡ true → Contains (grounds (answers t) x) y →
      (x ≡ y) ⊎ Contains (stands_on (answers t) x) y
  leads_on x y live there c = elim (or_cases (x == y) (is_among y (stands_on (answers t) x)) (leads_among x y live there c)) [
    | inl same ↦ inl (eqb-true x y same)
    | inr among ↦ inr (contains_among y (stands_on (answers t) x) among)
  ]
