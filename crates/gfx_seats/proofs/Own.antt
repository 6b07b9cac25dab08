-- A seat's own step: what stays, and what has to be shown.
use Rattle.std.proofs.Common.{◌≡◌, ◌≢◌, ℕ, zero, suc, ◌+◌, ◌*◌, ◌%◌, ◌<◌, ◌≤◌, ◌==◌, Bool, true, false, List, [], ◌∷◌, length, get_or, set, sym, refl, ap, ◌∙◌, subst, arith, eq-eqb, ne_eqb, Option}
use mathlib.Core.Logic.{dite}
use mathlib.Core.Option.{some, some-ne-none}
use mathlib.Core.Option as maybe
use native.Mathlib.Decide.{ℕ_discrete}
use lib.ListN.{get_elem?}
use lib.Seq.{set-get_or}
use Rattle.atomic_table.specs.Table.{State}
use Rattle.atomic_table.proofs.Lists.{set_again}
use Rattle.gfx_seats.specs.declared.stage.Stage.{Stage}
use Rattle.gfx_seats.specs.declared.stage.Stage.TheVariants.{Absent, Idle, Waits, HasTurn}
use Rattle.gfx_seats.specs.declared.hand.Hand.{Hand}
use Rattle.gfx_seats.specs.declared.view.View.{View}
use Rattle.gfx_seats.specs.Entries.{weight, entries_of}
use Rattle.gfx_seats.specs.Stage.{seat_count, turn_count, tickets_of}
use Rattle.gfx_seats.specs.Hand.{drawn_times, drawn_in, thread_times, seats_in, ticket_times, tickets_in, turns_in}
use Rattle.gfx_seats.specs.View.{over, overall}
use Rattle.gfx_seats.specs.Rule.{Once, when, Each, ViewFits, SlotFits, IsKept}
use Rattle.gfx_seats.proofs.Totals.{total-set, total-le, is-same, is-other}
use Rattle.gfx_seats.proofs.Hands.{once-le}

pub once-more : (from to x n m : ℕ) → from ≤ to → Once from to x n → m ≡ n + weight (to == x) → Once from (to + 1) x m
once-more from to x n m pos o is = dite (ℕ_discrete to x)
    (λ e. let w = is-same x to e in let z = o.above (omega arith) in record { inside = λ a b. omega arith; below = λ a. omega arith; above = λ a. omega arith })
    (λ ne. let w = is-other x to ne in record { inside = λ a b. let z = o.inside a (omega arith) in omega arith; below = λ a. let z = o.below a in omega arith; above = λ a. let z = o.above (omega arith) in omega arith })

pub when-same : (x y n : ℕ) → x ≡ y → when (x == y) n ≡ n
when-same x y n e = ap (λ (b : Bool). when b n) (eq-eqb x y e)

pub when-other : (x y n : ℕ) → x ≢ y → when (x == y) n ≡ 0
when-other x y n ne = ap (λ (b : Bool). when b n) (ne_eqb x y ne)

pub when-zero : (b : Bool) → when b 0 ≡ 0
when-zero true = refl
when-zero false = refl

pub next_mod : (a : ℕ) → (a % 18446744073709551616 + 1) % 18446744073709551616 ≡ (a + 1) % 18446744073709551616
next_mod a = omega arith

pub waits-present : (st : Stage) → length (tickets_of st) ≤ 1 * seat_count st
waits-present Absent = omega arith
waits-present Idle = omega arith
waits-present (Waits k) = omega arith
waits-present HasTurn = omega arith

pub has-present : (st : Stage) → turn_count st ≤ 1 * seat_count st
has-present Absent = omega arith
has-present Idle = omega arith
has-present (Waits k) = omega arith
has-present HasTurn = omega arith

pub in_range : {A : Type 0} (l : List A) (i : ℕ) (v : A) → get_elem? l i ≡ some v → i < length l
in_range [] i v e = absurd (some-ne-none v (sym e))
in_range (x ∷ xs) zero v e = omega arith
in_range (x ∷ xs) (suc i) v e = let r = in_range xs i v e in omega arith

module _ {E : Type 0} where
  pub same_over : (f : Hand E → ℕ) (views : List (View E)) (id : ℕ) (v w : View E) → get_elem? views id ≡ some v → over f w ≡ over f v → overall f (set views id w) ≡ overall f views
  same_over f views id v w at e = let t = total-set (over f) views id v w at in omega arith

module _ {V E : Type 0} (entries : V → List E) (thread_of : E → ℕ) (ids_of : E → List ℕ) (kind_of : V → ℕ) (seats kind : ℕ) where
  abbrev St : Type 0
  St = State (Option V) (View E)

  abbrev Rule : St → Type 0
  Rule = IsKept entries thread_of ids_of kind_of seats kind

  -- the seat draws nothing, and keeps its thread
  pub own_state : (s : St) (k : Rule s) (id : ℕ) (v w : View E) (words' : List ℕ) (homes' : List (maybe.Option (Option V))) (issued' served' : ℕ) (log' : List E) → get_elem? s.views id ≡ some v
      → words' ≡ k.next ∷ issued' % 18446744073709551616 ∷ served' % 18446744073709551616 ∷ length log' ∷ []
      → ((x : ℕ) → over (drawn_times x) w ≡ over (drawn_times x) v) → over drawn_in w ≡ over drawn_in v → ((x : ℕ) → over (thread_times x) w ≡ over (thread_times x) v) → over seats_in w ≡ over seats_in v
      → ((x : ℕ) → Once served' issued' x (overall (ticket_times x) (set s.views id w) + when (served' == x) (overall turns_in (set s.views id w))))
      → served' + (overall tickets_in (set s.views id w) + overall turns_in (set s.views id w)) ≡ issued'
      → SlotFits entries thread_of ids_of kind_of seats kind log' homes' (overall turns_in (set s.views id w))
      → ((x : ℕ) → seats ≤ x → entries_of thread_of x log' ≡ [])
      → Each (ViewFits thread_of ids_of log' kind) (set s.views id w)
      → Rule record { words = words'; homes = homes'; views = set s.views id w }
  own_state s k id v w words' homes' issued' served' log' at words_is d n t p tickets' count' slot' foreign' each' = record {
    next = k.next;
    issued = issued';
    served = served';
    log = log';
    words = words_is;
    few_seats = k.few_seats;
    ids = λ x. subst (Once 1 k.next x) (sym (same_over (drawn_times x) s.views id v w at (d x))) (k.ids x);
    id_count = let a = same_over drawn_in s.views id v w at n in let b = k.id_count in omega arith;
    threads = λ x. subst (Once 0 seats x) (sym (same_over (thread_times x) s.views id v w at (t x))) (k.threads x);
    seat_total = same_over seats_in s.views id v w at p ∙ k.seat_total;
    tickets = tickets';
    ticket_count = count';
    slot = slot';
    foreign = foreign';
    each = each';
  }

  -- it neither takes nor gives up a ticket, nor does the history grow
  pub quiet_state : (s : St) (k : Rule s) (id i : ℕ) (v w : View E) → get_elem? s.views id ≡ some v
      → ((x : ℕ) → over (drawn_times x) w ≡ over (drawn_times x) v) → over drawn_in w ≡ over drawn_in v → ((x : ℕ) → over (thread_times x) w ≡ over (thread_times x) v) → over seats_in w ≡ over seats_in v
      → ((x : ℕ) → over (ticket_times x) w ≡ over (ticket_times x) v) → over tickets_in w ≡ over tickets_in v → over turns_in w ≡ over turns_in v
      → Each (ViewFits thread_of ids_of k.log kind) (set s.views id w)
      → Rule record { words = set s.words i (get_or s.words i 0); homes = s.homes; views = set s.views id w }
  quiet_state s k id i v w at d n t p wf ws ht each' = let h = same_over turns_in s.views id v w at ht in
      own_state s k id v w (set s.words i (get_or s.words i 0)) s.homes k.issued k.served k.log at (set-get_or s.words i 0 ∙ k.words) d n t p
      (λ x. subst (λ (z : ℕ × ℕ). Once k.served k.issued x (z.0 + when (k.served == x) z.1)) (λ i. (sym (same_over (ticket_times x) s.views id v w at (wf x)) i, sym h i)) (k.tickets x))
      (let a = same_over tickets_in s.views id v w at ws in let b = k.ticket_count in omega arith)
      (subst (SlotFits entries thread_of ids_of kind_of seats kind k.log s.homes) (sym h) k.slot) k.foreign each'

  pub unmoved : (s : St) (k : Rule s) (id i : ℕ) (v : View E) → get_elem? s.views id ≡ some v → Rule record { words = set s.words i (get_or s.words i 0); homes = s.homes; views = set s.views id v }
  unmoved s k id i v at = subst (λ (z : List ℕ × List (View E)). Rule record { words = z.0; homes = s.homes; views = z.1 }) (λ j. (sym (set-get_or s.words i 0) j, sym (set_again s.views id v at) j)) k

  pub ticket_bound : (s : St) (k : Rule s) → k.issued ≤ k.served + 128
  ticket_bound s k = let a = total-le (over tickets_in) (over seats_in) 1 s.views (λ i v _. let x = waits-present v.hand.stage in let y = total-le tickets_in seats_in 1 v.others (λ j h _. waits-present h.stage) in omega arith) in
      let b = total-le (over turns_in) (over seats_in) 1 s.views (λ i v _. let x = has-present v.hand.stage in let y = total-le turns_in seats_in 1 v.others (λ j h _. has-present h.stage) in omega arith) in
      let c = k.ticket_count in let d = k.seat_total in let e = k.few_seats in omega arith

  -- the ticket that is served is with one seat at most
  pub served_once : (s : St) (k : Rule s) → overall (ticket_times k.served) s.views + overall turns_in s.views ≤ 1
  served_once s k = let o = once-le k.served k.issued k.served _ (k.tickets k.served) in let w = when-same k.served k.served (overall turns_in s.views) refl in omega arith
