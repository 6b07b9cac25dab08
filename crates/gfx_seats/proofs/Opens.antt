-- A new desk keeps the rule.
use Rattle.std.proofs.Common.{length, ◌≡◌, ℕ, zero, suc, ◌+◌, ◌-◌, ◌<◌, ◌≤◌, ◌==◌, List, [], ◌∷◌, ◌++◌, sym, refl, ap, ◌∙◌, subst, arith, Some}
use mathlib.Core.Logic.{dite}
use mathlib.Core.Option.{some, some-injective, some-ne-none}
use native.Mathlib.Decide.{ℕ_discrete}
use lib.ListN.{get_elem?}
use Rattle.atomic_table.specs.Table.{opening}
use Rattle.gfx_seats.specs.declared.hand.Hand.{Hand}
use Rattle.gfx_seats.specs.declared.view.View.{View}
use Rattle.gfx_seats.specs.Entries.{total}
use Rattle.gfx_seats.specs.Hand.{fresh, fresh_from, drawn_times, drawn_in, thread_times, seats_in, ticket_times, tickets_in, turns_in}
use Rattle.gfx_seats.specs.View.{opening_view, overall}
use Rattle.gfx_seats.specs.Rule.{Once, when, Each, HandFits, NoteFits, ViewFits, IsKept}
use Rattle.gfx_seats.proofs.Totals.{each-nil, is-same, is-other}
use Rattle.gfx_seats.proofs.Own.{when-zero}

module _ {E : Type 0} where
  nothing_from : (f : Hand E → ℕ) (kind : ℕ) → ((t : ℕ) → f (fresh kind t) ≡ 0) → (t n : ℕ) → total f (fresh_from kind t n) ≡ 0
  nothing_from f kind z t zero = refl
  nothing_from f kind z t (suc n) = let a = z t in let b = nothing_from f kind z (t + 1) n in omega arith

module _ (E : Type 0) where
  count_from : (kind t n : ℕ) → total (seats_in {E = E}) (fresh_from kind t n) ≡ n
  count_from kind t zero = refl
  count_from kind t (suc n) = let b = count_from kind (t + 1) n in omega arith

  threads_from : (kind x t n : ℕ) → Once t (t + n) x (total (thread_times {E = E} x) (fresh_from kind t n))
  threads_from kind x t zero = record { inside = λ a b. absurd (omega arith); below = λ a. refl; above = λ a. refl }
  threads_from kind x t (suc n) = let o = threads_from kind x (t + 1) n in dite (ℕ_discrete t x)
      (λ e. let w = is-same x t e in let z = o.below (omega arith) in record { inside = λ a b. omega arith; below = λ a. omega arith; above = λ a. omega arith })
      (λ ne. let w = is-other x t ne in record { inside = λ a b. let z = o.inside (omega arith) (omega arith) in omega arith; below = λ a. let z = o.below (omega arith) in omega arith; above = λ a. let z = o.above (omega arith) in omega arith })

  pub length-fresh_from : (kind t n : ℕ) → length (fresh_from {E = E} kind t n) ≡ n
  length-fresh_from kind t zero = refl
  length-fresh_from kind t (suc n) = ap suc (length-fresh_from kind (t + 1) n)

  pub fresh-snoc : (kind t n : ℕ) → fresh_from {E = E} kind t (n + 1) ≡ fresh_from kind t n ++ fresh kind (t + n) ∷ []
  fresh-snoc kind t zero = let e : t ≡ t + 0 = omega arith in ap (λ (z : ℕ). let l : List (Hand E) = fresh kind z ∷ [] in l) e
  fresh-snoc kind t (suc n) = let e : suc n + 1 ≡ suc (n + 1) = omega arith in ap (λ (z : ℕ). fresh_from {E = E} kind t z) e
      ∙ ap (λ (l : List (Hand E)). fresh kind t ∷ l) (fresh-snoc kind (t + 1) n ∙ ap (λ (z : ℕ). fresh_from kind (t + 1) n ++ fresh kind z ∷ []) (omega arith))

  pub fresh-first : (kind t n : ℕ) → 0 < n → fresh_from {E = E} kind t n ≡ fresh kind t ∷ fresh_from kind (t + 1) (n - 1)
  fresh-first kind t zero h = absurd (omega arith)
  fresh-first kind t (suc n) h = ap (λ (z : ℕ). fresh kind t ∷ fresh_from kind (t + 1) z) (omega arith)

module _ {V E : Type 0} (entries : V → List E) (thread_of : E → ℕ) (ids_of : E → List ℕ) (kind_of : V → ℕ) (seats : ℕ) where
  fresh_ok : (kind t : ℕ) → HandFits thread_of ids_of [] kind (fresh kind t)
  fresh_ok kind t = record { few = omega arith; here = λ _. record { kind_is = refl; seen = ([], refl); low = omega arith; high = omega arith; mine = refl; all_seen = refl; drew = λ x p. absurd (omega arith); turn = λ e. absurd (omega arith) } }

  each_from : (kind t n : ℕ) → Each (HandFits thread_of ids_of [] kind) (fresh_from kind t n)
  each_from kind t zero k h e = absurd (some-ne-none h (sym e))
  each_from kind t (suc n) zero h e = subst (HandFits thread_of ids_of [] kind) (some-injective _ h e) (fresh_ok kind t)
  each_from kind t (suc n) (suc k) h e = each_from kind (t + 1) n k h e

  pub opens : (v : V) → entries v ≡ [] → 1 ≤ seats → seats ≤ 64 → IsKept entries thread_of ids_of kind_of seats (kind_of v) (opening (1 ∷ 0 ∷ 0 ∷ 0 ∷ []) (Some v ∷ []) (opening_view (kind_of v) seats))
  opens v empty some_seats few_seats = let kind = kind_of v in let n = seats - 1 in record {
    next = 1;
    issued = 0;
    served = 0;
    log = [];
    words = refl;
    few_seats = few_seats;
    ids = λ x. let a = nothing_from {E = E} (drawn_times x) kind (λ t. refl) 0 n in record { inside = λ b c. absurd (omega arith); below = λ _. omega arith; above = λ _. omega arith };
    id_count = let a = nothing_from {E = E} drawn_in kind (λ t. refl) 0 n in omega arith;
    threads = λ x. let o = threads_from E kind x 0 n in dite (ℕ_discrete n x)
        (λ e. let w = is-same x n e in let z = o.above (omega arith) in record { inside = λ a b. omega arith; below = λ a. omega arith; above = λ a. omega arith })
        (λ ne. let w = is-other x n ne in record { inside = λ a b. let z = o.inside (omega arith) (omega arith) in omega arith; below = λ a. omega arith; above = λ a. let z = o.above (omega arith) in omega arith });
    seat_total = let a = count_from E kind 0 n in omega arith;
    tickets = λ x. let a = nothing_from {E = E} (ticket_times x) kind (λ t. refl) 0 n in let b = nothing_from {E = E} turns_in kind (λ t. refl) 0 n in
        let c : when (0 == x) (overall (turns_in {E = E}) (opening_view kind seats ∷ [])) ≡ 0 = ap (when (0 == x)) (omega arith) ∙ when-zero (0 == x) in
        record { inside = λ p q. absurd (omega arith); below = λ p. omega arith; above = λ p. omega arith };
    ticket_count = let a = nothing_from {E = E} tickets_in kind (λ t. refl) 0 n in let b = nothing_from {E = E} turns_in kind (λ t. refl) 0 n in omega arith;
    slot = record { there = λ _. (v, refl, empty, refl); away = λ p. let b = nothing_from {E = E} turns_in kind (λ t. refl) 0 n in absurd (omega arith) };
    foreign = λ x _. refl;
    each = λ j w e. one j w e;
  }
    where
      one : (j : ℕ) (w : View E) → get_elem? (opening_view (kind_of v) seats ∷ []) j ≡ some w → ViewFits thread_of ids_of [] (kind_of v) w
      one zero w e = subst (ViewFits thread_of ids_of [] (kind_of v)) (some-injective _ w e) record { hand = fresh_ok (kind_of v) (seats - 1); others = each_from (kind_of v) 0 (seats - 1); notes = each-nil (NoteFits thread_of ids_of [] (kind_of v)) }
      one (suc j) w e = absurd (some-ne-none w (sym e))
