-- Drawing an id keeps the rule.
use Rattle.std.proofs.Common.{◌≡◌, ℕ, zero, suc, ◌+◌, ◌%◌, ◌^◌, ◌<◌, ◌≤◌, ◌==◌, List, [], ◌∷◌, length, get_or, set, sym, refl, ap, ◌∙◌, subst, arith, length-append, Option}
use mathlib.Core.Logic.{dite}
use mathlib.Core.Option.{none, some}
use native.Mathlib.Decide.{ℕ_discrete}
use lib.ListN.{get_elem?}
use Rattle.atomic_table.specs.Table.{State, Me, step, keeps, stepped, Allows}
use Rattle.atomic_table.proofs.Lists.{set_here}
use Rattle.gfx_seats.specs.declared.hand.Hand.{Hand}
use Rattle.gfx_seats.specs.declared.view.View.{View}
use Rattle.gfx_seats.specs.Entries.{weight, times}
use Rattle.gfx_seats.specs.Stage.{seat_count}
use Rattle.gfx_seats.specs.Hand.{with_id, drawn_times, drawn_in, thread_times, seats_in, ticket_times, tickets_in, turns_in}
use Rattle.gfx_seats.specs.View.{with_hand, over, overall}
use Rattle.gfx_seats.specs.Rule.{Once, when, ViewFits, SlotFits, IsKept}
use Rattle.gfx_seats.specs.Steps.{drew}
use Rattle.gfx_seats.proofs.Totals.{total-at, each-set, times-append, is-same, is-other}
use Rattle.gfx_seats.proofs.Hands.{hand-all, same-all, alone, drawn_bound}

once-more : (to x n m : ℕ) → 1 ≤ to → Once 1 to x n → m ≡ n + weight (to == x) → Once 1 (to + 1) x m
once-more to x n m pos o is = dite (ℕ_discrete to x)
    (λ e. let w = is-same x to e in let z = o.above (omega arith) in record { inside = λ a b. omega arith; below = λ a. omega arith; above = λ a. omega arith })
    (λ ne. let w = is-other x to ne in record { inside = λ a b. let z = o.inside a (omega arith) in omega arith; below = λ a. let z = o.below a in omega arith; above = λ a. let z = o.above (omega arith) in omega arith })

module _ {V E : Type 0} (entries : V → List E) (thread_of : E → ℕ) (ids_of : E → List ℕ) (kind_of : V → ℕ) (seats kind : ℕ) where
  abbrev St : Type 0
  St = State (Option V) (View E)

  abbrev Rule : St → Type 0
  Rule = IsKept entries thread_of ids_of kind_of seats kind

  drawn_view : (log : List E) (v : View E) (x : ℕ) → ViewFits thread_of ids_of log kind v → seat_count v.hand.stage ≡ 1 → length v.hand.drawn < 4294967296 → ViewFits thread_of ids_of log kind (with_hand v (with_id v.hand x))
  drawn_view log v x ok there few = let h = ok.hand.here there in let l = length-append v.hand.drawn (x ∷ []) in record {
    hand = record {
      few = omega arith;
      here = λ _. record {
        kind_is = h.kind_is;
        seen = h.seen;
        low = h.low;
        high = h.high;
        mine = h.mine;
        all_seen = h.all_seen;
        drew = λ y pos. let d = h.drew y pos in let t = times-append y v.hand.drawn (x ∷ []) in omega arith;
        turn = h.turn;
      };
    };
    others = ok.others;
    notes = ok.notes;
  }

  drawn_state : (s : St) (k : Rule s) (id : ℕ) (v : View E) (c : List (ℕ × Option V)) → get_elem? s.views id ≡ some v → seat_count v.hand.stage ≡ 1 → length v.hand.drawn < 4294967296
      → Rule (stepped s 0 (k.next + 1) id c (with_hand v (with_id v.hand k.next)) keeps)
  drawn_state s k id v c at there few = let h' : Hand E = with_id v.hand k.next in let m = λ (f : Hand E → ℕ). hand-all f s.views id v h' at in
      let same = λ (f : Hand E → ℕ) (e : f h' ≡ f v.hand). same-all f s.views id v h' at e in let idc = k.id_count in record {
        next = k.next + 1;
        issued = k.issued;
        served = k.served;
        log = k.log;
        words = ap (λ (l : List ℕ). set l 0 (k.next + 1)) k.words;
        few_seats = k.few_seats;
        ids = λ x. once-more k.next x (overall (drawn_times x) s.views) _ (omega arith) (k.ids x) (let t = times-append x v.hand.drawn (k.next ∷ []) in let a = m (drawn_times x) in omega arith);
        id_count = let a = m drawn_in in let l = length-append v.hand.drawn (k.next ∷ []) in omega arith;
        threads = λ x. subst (Once 0 seats x) (sym (same (thread_times x) refl)) (k.threads x);
        seat_total = same seats_in refl ∙ k.seat_total;
        tickets = λ x. subst (λ (z : ℕ × ℕ). Once k.served k.issued x (z.0 + when (k.served == x) z.1)) (λ i. (sym (same (ticket_times x) refl) i, sym (same turns_in refl) i)) (k.tickets x);
        ticket_count = let a = same tickets_in refl in let b = same turns_in refl in let d = k.ticket_count in omega arith;
        slot = subst (SlotFits entries thread_of ids_of kind_of seats kind k.log s.homes) (sym (same turns_in refl)) k.slot;
        foreign = k.foreign;
        each = each-set (ViewFits thread_of ids_of k.log kind) s.views id (with_hand v h') (drawn_view k.log v k.next (k.each id v at) there few) (λ j w _ e. k.each j w e);
      }

  pub draws : (slots id : ℕ) (me : Me (Option V) (View E)) → me.0.others ≡ [] → seat_count me.0.hand.stage ≡ 1 → length me.0.hand.drawn < 4294967296
      → Allows Rule slots id me 0 (λ n. (n + 1) % 2 ^ 64) (drew entries thread_of ids_of kind_of (step slots 0 1 0 none) me)
  draws slots id me bare there few s k _ at small = let found : get_or s.words 0 0 ≡ k.next = ap (λ (l : List ℕ). get_or l 0 0) k.words in
      let bound = drawn_bound entries thread_of ids_of kind_of seats kind s k in let idc = k.id_count in let fs = k.few_seats in
      let next' : (k.next + 1) % 18446744073709551616 ≡ k.next + 1 = omega arith in
      let w : View E = with_hand me.0 (with_id me.0.hand k.next) in let kept = drawn_state s k id me.0 me.1 at there few in
      let none_yet : times k.next me.0.hand.drawn ≡ 0 = (let z = (k.ids k.next).above (omega arith) in let a = total-at (over (drawn_times k.next)) s.views id me.0 at in omega arith) in
      subst (λ (r : ℕ). (w' : View E) × (a : Rattle.atomic_table.specs.Table.Act (Option V)) × Rattle.atomic_table.specs.Table.Valid s.homes me.1 a × Rule (stepped s 0 ((r + 1) % 18446744073709551616) id me.1 w' a) × drew entries thread_of ids_of kind_of (step slots 0 1 0 none) me r (w', Rattle.atomic_table.specs.Table.carried_after me.1 a)) (sym found) (
        w,
        keeps,
        tt,
        subst (λ (z : ℕ). Rule (stepped s 0 z id me.1 w keeps)) (sym next') kept,
        (omega arith, none_yet, refl, alone entries thread_of ids_of kind_of seats kind (stepped s 0 (k.next + 1) id me.1 w keeps) kept id w (set_here s.views id w (in_range s.views id me.0 at)) bare there),
      )
    where
      in_range : (l : List (View E)) (i : ℕ) (v : View E) → get_elem? l i ≡ some v → i < length l
      in_range [] i v e = absurd (mathlib.Core.Option.some-ne-none v (sym e))
      in_range (x ∷ xs) zero v e = omega arith
      in_range (x ∷ xs) (suc i) v e = let r = in_range xs i v e in omega arith
