-- The ids that a log creates: counted, told apart, and unused where nothing creates them.
use Rattle.std.proofs.Common.{◌≡◌, inl, inr, ℕ, zero, suc, ◌+◌, ◌<◌, ◌≤◌, ◌==◌, Bool, true, false, not, List, [], ◌∷◌, ◌++◌, refl, sym, ap, ◌∙◌, arith, eq-eqb}
use Rattle.std.specs.Prelude.{nat_le}
use Rattle.std.specs.List.{list_all}
use Rattle.std.proofs.lemmas.Bool.{both_ways, not-true, or_left, or_right, and_parts, and_from, or_cases, not_from_false, false_from_ne_true, le-leb}
use Rattle.std.proofs.lemmas.List.Concat.{flat_map-append}
use Rattle.std.proofs.lemmas.List.Folds.{list_all-append}
use Rattle.gfx_model.specs.Events.{Event}
use Rattle.gfx_model.specs.Checks.{is_among, is_distinct}
use Rattle.gfx_model.specs.Questions.{used}
use Rattle.gfx_model.specs.History.{steps, view}
use Rattle.gfx_script_model.specs.Ids.{defines_of}
use Rattle.gfx_script_model.specs.Runs.{Entry, AreIds, created_by, history, history_onto}
use Rattle.gfx_seats.specs.Entries.{weight, times, created}
use Rattle.gfx_seats.proofs.Totals.{times-append}
use Rattle.gfx_taken_law.proofs.NewSteps.{used_event}

-- how often the log creates an id
abbrev pub creates : ℕ → ℕ → List Entry → ℕ
creates m x log = created (λ e. defines_of m e.event) x log

pub counted : (m x : ℕ) (log : List Entry) → creates m x log ≡ times x (created_by m log)
counted m x [] = refl
counted m x (e ∷ es) = let r = counted m x es in let a = times-append x (defines_of m e.event) (created_by m es) in omega arith

-- ---- lists of ids by counts

pub is-among : (x : ℕ) (xs : List ℕ) → is_among x xs ≡ true → 0 < times x xs
is-among x [] h = absurd cc
is-among x (y ∷ ys) h = elim (or_cases (y == x) (is_among x ys) h) [
  | inl here ↦ let one : weight (y == x) ≡ 1 = ap weight here in omega arith
  | inr later ↦ let r = is-among x ys later in omega arith
]

pub all-positive : (xs : List ℕ) → times 0 xs ≡ 0 → list_all (nat_le 1) xs ≡ true
all-positive [] h = refl
all-positive (zero ∷ xs) h = absurd (let one : weight (0 == 0) ≡ 1 = refl in omega arith)
all-positive (suc x ∷ xs) h = and_from (nat_le 1 (suc x)) (list_all (nat_le 1) xs) (le-leb 1 (suc x) (omega arith)) (all-positive xs (omega arith))

pub all-distinct : (xs : List ℕ) → ((x : ℕ) → times x xs ≤ 1) → is_distinct xs ≡ true
all-distinct [] h = refl
all-distinct (x ∷ xs) h =
    let once = h x in let one : weight (x == x) ≡ 1 = ap weight (eq-eqb x x refl) in
    and_from (not (is_among x xs)) (is_distinct xs)
    (not_from_false (is_among x xs) (false_from_ne_true (is_among x xs) (λ there. let r = is-among x xs there in omega arith)))
    (all-distinct xs (λ y. let o = h y in omega arith))

-- a test that holds of each counted id
pub all-counted : (test : ℕ → Bool) (xs : List ℕ) → ((x : ℕ) → 0 < times x xs → test x ≡ true) → list_all test xs ≡ true
all-counted test [] h = refl
all-counted test (x ∷ xs) h =
    let one : weight (x == x) ≡ 1 = ap weight (eq-eqb x x refl) in
    and_from (test x) (list_all test xs) (h x (omega arith)) (all-counted test xs (λ y pos. h y (omega arith)))

-- ---- fronts

distinct-front : (xs ys : List ℕ) → is_distinct (xs ++ ys) ≡ true → is_distinct xs ≡ true
distinct-front [] ys h = refl
distinct-front (x ∷ xs) ys h =
    let parts = and_parts (not (is_among x (xs ++ ys))) (is_distinct (xs ++ ys)) h in
    and_from (not (is_among x xs)) (is_distinct xs)
    (not_from_false (is_among x xs) (false_from_ne_true (is_among x xs) (λ there. both_ways (is_among x (xs ++ ys)) (not-true (is_among x (xs ++ ys)) parts.0) (longer x xs there))))
    (distinct-front xs ys parts.1)
  where
    longer : (x : ℕ) (zs : List ℕ) → is_among x zs ≡ true → is_among x (zs ++ ys) ≡ true
    longer x [] there = absurd cc
    longer x (z ∷ zs) there = elim (or_cases (z == x) (is_among x zs) there) [
      | inl here ↦ or_left (z == x) (is_among x (zs ++ ys)) here
      | inr later ↦ or_right (z == x) (is_among x (zs ++ ys)) (longer x zs later)
    ]

-- ids for a log are ids for its fronts
pub ids-of-front : (m : ℕ) (ids : ℕ → ℕ) (log front rest : List Entry) → log ≡ front ++ rest → AreIds m ids log → AreIds m ids front
ids-of-front m ids log front rest cut a =
    let made : created_by m log ≡ created_by m front ++ created_by m rest = ap (created_by m) cut ∙ flat_map-append (λ e. defines_of m e.event) front rest in record {
      none = a.none;
      positive = (and_parts (list_all (nat_le 1) (created_by m front)) (list_all (nat_le 1) (created_by m rest)) (sym (list_all-append (nat_le 1) (created_by m front) (created_by m rest)) ∙ (ap (list_all (nat_le 1)) (sym made) ∙ a.positive))).0;
      distinct = distinct-front (created_by m front) (created_by m rest) (ap is_distinct (sym made) ∙ a.distinct);
    }

-- ---- ids that are used

-- how often events create an id
made : ℕ → ℕ → List Event → ℕ
made m x [] = 0
made m x (e ∷ h) = times x (defines_of m e) + made m x h

-- an id that was used was created
used-made : (m x : ℕ) (h : List Event) → used (steps h) x ≡ true → 0 < made m x h
unfolding steps used made
used-made m x [] u = absurd (both_ways false refl u)
used-made m x (e ∷ h) u = elim (used_event m (view h) e (steps h) x u) [
  | inl here ↦ let a = is-among x (defines_of m e) here in omega arith
  | inr before ↦ let r = used-made m x h before in omega arith
]

made-onto : (m x : ℕ) (log : List Entry) (h : List Event) → made m x (history_onto log h) ≡ creates m x log + made m x h
unfolding made
made-onto m x [] h = omega arith
made-onto m x (e ∷ es) h = let r = made-onto m x es (e.event ∷ h) in omega arith

-- what the log doesn't create is not used after it
pub unused : (m x : ℕ) (log : List Entry) → creates m x log ≡ 0 → not ((view (history log)).used x) ≡ true
unfolding made
unused m x log none = not_from_false ((view (history log)).used x) (false_from_ne_true ((view (history log)).used x) (λ u.
    let a = used-made m x (history log) u in let b = made-onto m x log [] in omega arith))
