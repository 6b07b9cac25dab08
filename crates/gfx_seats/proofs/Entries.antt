-- Entries of one thread, and what entries create.
use Rattle.std.proofs.Common.{◌≡◌, ◌≢◌, ℕ, zero, suc, ◌+◌, ◌==◌, Bool, true, false, cond, List, [], ◌∷◌, ◌++◌, sym, refl, ap, ◌∙◌, subst, arith, eq-eqb, ne_eqb}
use Rattle.std.proofs.lemmas.List.Elements.{filter-append}
use mathlib.Core.Logic.{dite}
use mathlib.Core.Option.{some, some-injective, some-ne-none}
use native.Mathlib.Decide.{ℕ_discrete}
use lib.ListN.{get_elem?}
use Rattle.gfx_seats.specs.Entries.{times, entries_of, created}
use Rattle.gfx_seats.specs.Rule.{Each}

module _ {E : Type 0} (thread_of : E → ℕ) where
  pub entries_of-append : (t : ℕ) (l m : List E) → entries_of thread_of t (l ++ m) ≡ entries_of thread_of t l ++ entries_of thread_of t m
  entries_of-append t l m = filter-append (λ e. thread_of e == t) l m

  -- an entry of the thread is among those of the thread
  pub entries_of-has : (t : ℕ) (l : List E) (j : ℕ) (e : E) → get_elem? l j ≡ some e → thread_of e ≡ t → (i : ℕ) × (get_elem? (entries_of thread_of t l) i ≡ some e)
  entries_of-has t [] j e at is = absurd (some-ne-none e (sym at))
  entries_of-has t (y ∷ l) zero e at is = let same = some-injective y e at in let hit : thread_of y == t ≡ true = eq-eqb (thread_of y) t (ap thread_of same ∙ is) in
      (0, subst (λ (b : Bool). get_elem? (cond b (y ∷ entries_of thread_of t l) (entries_of thread_of t l)) 0 ≡ some e) (sym hit) (ap some same))
  entries_of-has t (y ∷ l) (suc j) e at is = let r = entries_of-has t l j e at is in go (thread_of y == t) r
    where
      go : (b : Bool) → (i : ℕ) × (get_elem? (entries_of thread_of t l) i ≡ some e) → (i : ℕ) × (get_elem? (cond b (y ∷ entries_of thread_of t l) (entries_of thread_of t l)) i ≡ some e)
      go true r = (suc r.0, r.1)
      go false r = r

  pub entries_of-all : (t : ℕ) (l : List E) → Each (λ e. thread_of e ≡ t) l → entries_of thread_of t l ≡ l
  entries_of-all t [] h = refl
  entries_of-all t (e ∷ l) h = let r = entries_of-all t l (λ j z q. h (suc j) z q) in
      ap (λ (b : Bool). cond b (e ∷ entries_of thread_of t l) (entries_of thread_of t l)) (eq-eqb (thread_of e) t (h 0 e refl)) ∙ ap (λ (z : List E). e ∷ z) r

  pub entries_of-none : (t u : ℕ) (l : List E) → Each (λ e. thread_of e ≡ t) l → u ≢ t → entries_of thread_of u l ≡ []
  entries_of-none t u [] h n = refl
  entries_of-none t u (e ∷ l) h n = let r = entries_of-none t u l (λ j z q. h (suc j) z q) n in
      ap (λ (b : Bool). cond b (e ∷ entries_of thread_of u l) (entries_of thread_of u l)) (ne_eqb (thread_of e) u (λ q. n (sym q ∙ h 0 e refl))) ∙ r

module _ {E : Type 0} (thread_of : E → ℕ) (ids_of : E → List ℕ) where
  -- where no entry of another thread creates an id, all that creates it are entries of the thread
  pub created-own : (t x : ℕ) (l : List E) → Each (λ e. thread_of e ≢ t → times x (ids_of e) ≡ 0) l → created ids_of x l ≡ created ids_of x (entries_of thread_of t l)
  created-own t x [] h = refl
  created-own t x (e ∷ l) h = let r = created-own t x l (λ j z q. h (suc j) z q) in dite (ℕ_discrete (thread_of e) t)
      (λ same. subst (λ (b : Bool). times x (ids_of e) + created ids_of x l ≡ created ids_of x (cond b (e ∷ entries_of thread_of t l) (entries_of thread_of t l))) (sym (eq-eqb (thread_of e) t same)) (ap (λ (n : ℕ). times x (ids_of e) + n) r))
      (λ other. subst (λ (b : Bool). times x (ids_of e) + created ids_of x l ≡ created ids_of x (cond b (e ∷ entries_of thread_of t l) (entries_of thread_of t l))) (sym (ne_eqb (thread_of e) t other)) (let z = h 0 e refl other in omega arith))
