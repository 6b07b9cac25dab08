-- Once all seats are one, the value in the slot is the whole history.
use Rattle.std.proofs.Common.{All, Bool, true, false, ◌≡◌, ◌≢◌, ℕ, suc, ◌+◌, ◌*◌, ◌≤◌, ◌==◌, List, [], ◌∷◌, length, set, sym, refl, ap, ◌∙◌, subst, arith, Option, Some}
use mathlib.Core.Logic.{dite}
use mathlib.Core.Option.{some}
use mathlib.Core.Option as maybe
use native.Mathlib.Decide.{dec_le}
use lib.ListN.{get_elem?}
use Rattle.atomic_table.specs.Table.{State, Final, Seen}
use Rattle.gfx_seats.specs.declared.stage.Stage.{Stage}
use Rattle.gfx_seats.specs.declared.stage.Stage.TheVariants.{Absent, Idle, Waits, HasTurn}
use Rattle.gfx_seats.specs.declared.hand.Hand.{Hand}
use Rattle.gfx_seats.specs.declared.view.View.{View}
use mathlib.Core.List.{IsPrefix}
use Rattle.gfx_seats.specs.Entries.{weight, times, total, entries_of}
use Rattle.gfx_seats.specs.Stage.{seat_count, turn_count, threads_of}
use Rattle.gfx_seats.specs.Hand.{nobody, drawn_times, thread_times, seats_in, turns_in}
use Rattle.gfx_seats.specs.View.{spent_view, over, overall}
use Rattle.gfx_seats.specs.Rule.{Once, Each, HandFits, IsKept}
use Rattle.gfx_seats.specs.Desk.{Closes}
use Rattle.gfx_seats.proofs.Totals.{total-set, total-found, total-le, each-set, each-cons, each-from_All, All-from_each}
use Rattle.gfx_seats.proofs.Hands.{named-here}
use Rattle.gfx_seats.proofs.Own.{has-present}

times-le : (x : ℕ) (l : List ℕ) → times x l ≤ length l
times-le x [] = omega arith
times-le x (y ∷ ys) = let r = times-le x ys in let w = weight-le (y == x) in omega arith
  where
    weight-le : (b : Bool) → weight b ≤ 1
    weight-le true = omega arith
    weight-le false = omega arith

named-present : (x t : ℕ) (st : Stage) → times x (threads_of st t) ≤ 1 * seat_count st
named-present x t Absent = omega arith
named-present x t Idle = let r = times-le x (t ∷ []) in omega arith
named-present x t (Waits k) = let r = times-le x (t ∷ []) in omega arith
named-present x t HasTurn = let r = times-le x (t ∷ []) in omega arith

module _ {V E : Type 0} (entries : V → List E) (thread_of : E → ℕ) (ids_of : E → List ℕ) (kind_of : V → ℕ) (seats kind : ℕ) where
  abbrev St : Type 0
  St = State (Option V) (View E)

  abbrev Rule : St → Type 0
  Rule = IsKept entries thread_of ids_of kind_of seats kind

  -- what is counted of hands that are there is all in a view that has all the hands
  only_here : (s : St) (k : Rule s) (id : ℕ) (v : View E) → get_elem? s.views id ≡ some v → over seats_in v ≡ seats → (f : Hand E → ℕ) (c : ℕ) → f nobody ≡ 0
      → ((h : Hand E) → HandFits thread_of ids_of k.log kind h → f h ≤ c * seat_count h.stage) → overall f s.views ≡ over f v
  only_here s k id v at full f c zero_of bound = let sp : View E = spent_view in
      let a = total-set (over seats_in) s.views id v sp at in let b = total-set (over f) s.views id v sp at in let sc = k.seat_total in
      let none_there : overall seats_in (set s.views id sp) ≡ 0 = omega arith in
      let le = total-le (over f) (over seats_in) c (set s.views id sp)
      (each-set (λ u. over f u ≤ c * over seats_in u) s.views id sp (omega arith)
      (λ j u _ e. let ok = k.each j u e in let p = bound u.hand ok.hand in let q = total-le f seats_in c u.others (λ i h d. bound h (ok.others i h d)) in
      let d : c * (seat_count u.hand.stage + total seats_in u.others) ≡ c * seat_count u.hand.stage + c * total seats_in u.others = grind arith in omega arith)) in
      let z : c * overall seats_in (set s.views id sp) ≡ 0 = (ap (λ (n : ℕ). c * n) none_there ∙ mul_zero c) in omega arith
    where
      mul_zero : (n : ℕ) → n * 0 ≡ 0
      mul_zero n = omega arith

  there_all : (l : List (Hand E)) → Each (λ h. h.stage ≡ Idle) l → (total seats_in l ≡ length l) × (total turns_in l ≡ 0)
  there_all [] h = (refl, refl)
  there_all (x ∷ l) h = let r = there_all l (λ j y e. h (suc j) y e) in let p = h 0 x refl in let a : seat_count x.stage ≡ 1 = ap seat_count p in let b : turn_count x.stage ≡ 0 = ap turn_count p in let c = r.0 in let d = r.1 in (omega arith, omega arith)

  pub closes : (id : ℕ) (v : View E) (hands : List (Hand E)) (words : List ℕ) (slots : List (Option V)) → v.hand ∷ v.others ≡ hands → length hands ≡ seats
      → All (λ h. h.stage ≡ Idle) hands → Final (Seen Rule id v) words slots
      → (x : V) × (get_elem? slots 0 ≡ some (Some x)) × Closes entries thread_of kind_of hands x
  closes id v hands words slots is many idle fin = let s = fin.0 in let k = fin.1.0 in let at = fin.1.1 in let ok = k.each id v at in
      let idle' : Each (λ h. h.stage ≡ Idle) (v.hand ∷ v.others) = subst (Each (λ h. h.stage ≡ Idle)) (sym is) (each-from_All (λ h. h.stage ≡ Idle) hands idle) in
      let t = there_all (v.hand ∷ v.others) idle' in let t0 = t.0 in let t1 = t.1 in let lens = ap length is in
      let full : over seats_in v ≡ seats = omega arith in
      let turns : overall turns_in s.views ≡ 0 = only_here s k id v at full turns_in 1 refl (λ h _. has-present h.stage) ∙ t1 in
      let slot = k.slot.there turns in let x = slot.0 in
      let oks : Each (HandFits thread_of ids_of k.log kind) (v.hand ∷ v.others) = each-cons (HandFits thread_of ids_of k.log kind) v.hand v.others ok.hand ok.others in
      let heres = λ (j : ℕ) (h : Hand E) (e : get_elem? (v.hand ∷ v.others) j ≡ some h). (oks j h e).here (ap seat_count (idle' j h e)) in
      let ended : Closes entries thread_of kind_of (v.hand ∷ v.others) x = record {
        seen = All-from_each (λ h. IsPrefix h.seen (entries x)) (v.hand ∷ v.others) (λ j h e. subst (IsPrefix h.seen) (sym slot.2) (heres j h e).seen);
        known = All-from_each (λ h. h.known ≤ length (entries x)) (v.hand ∷ v.others) (λ j h e. subst (λ (l : List E). h.known ≤ length l) (sym slot.2) (heres j h e).high);
        mine = All-from_each (λ h. entries_of thread_of h.thread (entries x) ≡ h.mine) (v.hand ∷ v.others) (λ j h e. ap (entries_of thread_of h.thread) slot.2 ∙ (heres j h e).mine);
        kind = All-from_each (λ h. kind_of x ≡ h.kind) (v.hand ∷ v.others) (λ j h e. slot.3 ∙ sym (heres j h e).kind_is);
        foreign = λ y other. ap (entries_of thread_of y) slot.2 ∙ dite (dec_le seats y) (λ out. k.foreign y out)
            (λ inside. let one : overall (thread_times y) s.views ≡ 1 = (k.threads y).inside (omega arith) (omega arith) in
            let same = only_here s k id v at full (thread_times y) 1 refl (λ h _. named-present y h.thread h.stage) in
            let r = total-found (thread_times y) (v.hand ∷ v.others) (omega arith) in let n = named-here r.1.stage r.1.thread y r.3 in absurd (each-from_All (λ h. h.thread ≢ y) (v.hand ∷ v.others) other r.0 r.1 r.2 n.1));
        next = k.next;
        drawn = λ y. subst (Once 1 k.next y) (only_here s k id v at full (drawn_times y) 4294967296 refl (λ h o. let f = o.few in let l = times-le y h.drawn in omega arith)) (k.ids y);
      } in
      (x, fin.4 0 (Some x) (ap (λ (l : List (maybe.Option (Option V))). get_elem? l 0) slot.1), subst (λ (l : List (Hand E)). Closes entries thread_of kind_of l x) is ended)
