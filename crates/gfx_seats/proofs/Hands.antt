-- What holds of all hands, whatever seats they are with.
use Rattle.std.proofs.Common.{◌≡◌, ◌≢◌, ℕ, ◌+◌, ◌*◌, ◌<◌, ◌≤◌, List, [], set, sym, refl, ap, ◌∙◌, subst, arith, Option}
use mathlib.Core.Logic.{dite}
use mathlib.Core.Option.{some, some-injective, some-ne-none}
use native.Mathlib.Decide.{ℕ_discrete, dec_le}
use lib.ListN.{get_elem?}
use Rattle.atomic_table.specs.Table.{State}
use Rattle.gfx_seats.specs.declared.stage.Stage.{Stage}
use Rattle.gfx_seats.specs.declared.stage.Stage.TheVariants.{Absent, Idle, Waits, HasTurn}
use Rattle.gfx_seats.specs.declared.hand.Hand.{Hand}
use Rattle.gfx_seats.specs.declared.view.View.{View}
use Rattle.gfx_seats.specs.Entries.{created, times, total, entries_of}
use Rattle.gfx_seats.specs.Stage.{seat_count, threads_of}
use Rattle.gfx_seats.specs.Hand.{CreatesAlone, drawn_times, drawn_in, thread_times, seats_in}
use Rattle.gfx_seats.specs.View.{with_hand, over, overall}
use Rattle.gfx_seats.specs.Rule.{Once, Each, HandFits, IsKept}
use Rattle.gfx_seats.proofs.Totals.{total-set, total-at, total-two, total-found, total-le, prefix-at, is-there, is-other}
use Rattle.gfx_seats.proofs.Entries.{entries_of-has, created-own}

pub once-le : (from to x n : ℕ) → Once from to x n → n ≤ 1
once-le from to x n o = dite (dec_le from x)
    (λ low. dite (dec_le to x) (λ high. let z = o.above high in omega arith) (λ inside. let z = o.inside low (omega arith) in omega arith))
    (λ below. let z = o.below (omega arith) in omega arith)

pub named-here : (st : Stage) (t b : ℕ) → 0 < times b (threads_of st t) → (seat_count st ≡ 1) × (t ≡ b)
named-here Absent t b h = absurd (omega arith)
named-here Idle t b h = (refl, is-there b t (omega arith))
named-here (Waits k) t b h = (refl, is-there b t (omega arith))
named-here HasTurn t b h = (refl, is-there b t (omega arith))

pub named-else : (st : Stage) (t b : ℕ) → t ≢ b → times b (threads_of st t) ≡ 0
named-else Absent t b n = refl
named-else Idle t b n = let z = is-other b t n in omega arith
named-else (Waits k) t b n = let z = is-other b t n in omega arith
named-else HasTurn t b n = let z = is-other b t n in omega arith

module _ {E : Type 0} where
  pub hand-all : (f : Hand E → ℕ) (views : List (View E)) (id : ℕ) (v : View E) (h : Hand E) → get_elem? views id ≡ some v → overall f (set views id (with_hand v h)) + f v.hand ≡ overall f views + f h
  hand-all f views id v h at = let t = total-set (over f) views id v (with_hand v h) at in omega arith

  pub same-all : (f : Hand E → ℕ) (views : List (View E)) (id : ℕ) (v : View E) (h : Hand E) → get_elem? views id ≡ some v → f h ≡ f v.hand → overall f (set views id (with_hand v h)) ≡ overall f views
  same-all f views id v h at e = let t = hand-all f views id v h at in omega arith

  -- a view that counts has a hand that counts
  pub view-found : (P : Hand E → Type 0) (f : Hand E → ℕ) (v : View E) → P v.hand → Each P v.others → 0 < over f v → (h : Hand E) × P h × (0 < f h) × ((g : Hand E → ℕ) → g h ≤ over g v)
  view-found P f v here others pos = dite (ℕ_discrete (f v.hand) 0)
      (λ none_here. let r = total-found f v.others (omega arith) in (r.1, others r.0 r.1 r.2, r.3, λ g. let t = total-at g v.others r.0 r.1 r.2 in omega arith))
      (λ some_here. (v.hand, here, omega arith, λ g. omega arith))

module _ {V E : Type 0} (entries : V → List E) (thread_of : E → ℕ) (ids_of : E → List ℕ) (kind_of : V → ℕ) (seats kind : ℕ) where
  abbrev St : Type 0
  St = State (Option V) (View E)

  abbrev Rule : St → Type 0
  Rule = IsKept entries thread_of ids_of kind_of seats kind

  -- an entry in the log is made by the hand of its thread, which drew its ids
  pub maker : (s : St) (k : Rule s) (j : ℕ) (e : E) → get_elem? k.log j ≡ some e
      → (i : ℕ) × (v : View E) × (get_elem? s.views i ≡ some v) × (0 < over (thread_times (thread_of e)) v) × ((x : ℕ) → 0 < times x (ids_of e) → 0 < over (drawn_times x) v)
  maker s k j e at = let b = thread_of e in let here = entries_of-has thread_of b k.log j e at refl in dite (dec_le seats b)
      (λ out. absurd (some-ne-none e (sym (subst (λ (l : List E). get_elem? l here.0 ≡ some e) (k.foreign b out) here.1))))
      (λ ins. let one : overall (thread_times b) s.views ≡ 1 = (k.threads b).inside (omega arith) (omega arith) in
      let r = total-found (over (thread_times b)) s.views (omega arith) in let ok = k.each r.0 r.1 r.2 in
      let f = view-found (HandFits thread_of ids_of k.log kind) (thread_times b) r.1 ok.hand ok.others r.3 in let n = named-here f.0.stage f.0.thread b f.2 in
      let h = f.1.here n.0 in
      let mine : entries_of thread_of b k.log ≡ f.0.mine = subst (λ (t : ℕ). entries_of thread_of t k.log ≡ f.0.mine) n.1 h.mine in (
        r.0,
        r.1,
        r.2,
        r.3,
        λ x pos. let a = total-at (λ (z : E). times x (ids_of z)) f.0.mine here.0 e (subst (λ (l : List E). get_elem? l here.0 ≡ some e) mine here.1) in
            let d = h.drew x (omega arith) in let u = f.3 (drawn_times x) in omega arith,
      ))

  -- none of a thread's ids is created by an entry of another thread
  apart : (s : St) (k : Rule s) (id : ℕ) (v : View E) → get_elem? s.views id ≡ some v → v.others ≡ [] → seat_count v.hand.stage ≡ 1
      → Each (λ e. thread_of e ≢ v.hand.thread → (x : ℕ) → 0 < times x (ids_of e) → times x v.hand.drawn ≡ 0) v.hand.seen
  apart s k id v at bare there j e here other x pos = let ok = (k.each id v at).hand.here there in
      let m = maker s k j e (prefix-at v.hand.seen k.log j e ok.seen here) in let d : 0 < over (drawn_times x) m.1 = m.4 x pos in dite (ℕ_discrete m.0 id)
      (λ same. let is : m.1 ≡ v = some-injective m.1 v (sym m.2 ∙ (ap (λ (i : ℕ). get_elem? s.views i) same ∙ at)) in
      let none_here = named-else v.hand.stage v.hand.thread (thread_of e) (λ q. other (sym q)) in
      let none_else : total (thread_times (thread_of e)) v.others ≡ 0 = ap (total (thread_times (thread_of e))) bare in
      let pos' : 0 < over (thread_times (thread_of e)) v = subst (λ (z : View E). 0 < over (thread_times (thread_of e)) z) is m.3 in absurd (omega arith))
      (λ apart_from. let two = total-two (over (drawn_times x)) s.views id m.0 v m.1 (λ q. apart_from (sym q)) at m.2 in
      let le : overall (drawn_times x) s.views ≤ 1 = once-le 1 k.next x _ (k.ids x) in omega arith)

  pub alone : (s : St) (k : Rule s) (id : ℕ) (v : View E) → get_elem? s.views id ≡ some v → v.others ≡ [] → seat_count v.hand.stage ≡ 1 → CreatesAlone ids_of v.hand
  alone s k id v at bare there x drawn = let ok = (k.each id v at).hand.here there in
      created-own thread_of ids_of v.hand.thread x v.hand.seen (λ j e here other. dite (ℕ_discrete (times x (ids_of e)) 0) (λ z. z) (λ some_here. let z = apart s k id v at bare there j e here other x (omega arith) in absurd (omega arith)))
      ∙ ap (created ids_of x) ok.all_seen

  pub drawn_bound : (s : St) (k : Rule s) → overall drawn_in s.views ≤ 4294967296 * seats
  drawn_bound s k = let r = total-le (over drawn_in) (over seats_in) 4294967296 s.views
      (λ i v at. let ok = k.each i v at in let a = ok.hand.few in let b = total-le drawn_in seats_in 4294967296 v.others (λ j h q. (ok.others j h q).few) in omega arith) in
      let c = k.seat_total in omega arith
