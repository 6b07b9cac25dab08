-- Reading the length, taking a ticket, looking and leaving keep the rule.
use Rattle.std.proofs.Common.{Bool, eq-eqb, ne_eqb, append-nil, ◌≡◌, ℕ, ◌+◌, ◌%◌, ◌^◌, ◌<◌, ◌≤◌, ◌==◌, List, [], ◌∷◌, length, get_or, set, sym, refl, ap, ◌∙◌, subst, arith, Option, Some}
use mathlib.Core.Logic.{dite}
use mathlib.Core.Option.{none, some}
use mathlib.Core.Option as maybe
use native.Mathlib.Decide.{ℕ_discrete, dec_le}
use lib.ListN.{get_elem?}
use prog.Atomic.{either}
use Rattle.atomic_table.specs.Table.{State, Me, step, Act, keeps, takes, stepped, Allows, Valid, carried_after}
use Rattle.atomic_table.proofs.Lists.{set_here, one_turn}
use Rattle.gfx_seats.specs.declared.stage.Stage.{Stage}
use Rattle.gfx_seats.specs.declared.stage.Stage.TheVariants.{Idle, Waits}
use Rattle.gfx_seats.specs.declared.hand.Hand.{Hand}
use Rattle.gfx_seats.specs.declared.view.View.{View}
use Rattle.gfx_seats.specs.Entries.{times}
use Rattle.gfx_seats.specs.Stage.{seat_count, turn_count, tickets_of, threads_of}
use Rattle.gfx_seats.specs.Hand.{with_stage, with_known, at_turn, ticket_times, tickets_in, turns_in}
use Rattle.gfx_seats.specs.View.{with_hand, over, overall}
use Rattle.gfx_seats.specs.Rule.{Once, when, ViewFits, SlotFits, IsKept}
use Rattle.gfx_seats.specs.Steps.{tried_ticket, with_me, read_length, took_ticket, Served, looked}
use Rattle.gfx_seats.proofs.Totals.{total-at, each-set, is-same, is-other}
use Rattle.gfx_seats.proofs.Hands.{hand-all, alone}
use Rattle.gfx_seats.proofs.Own.{once-more, when-same, when-other, next_mod, in_range, own_state, quiet_state, unmoved, ticket_bound, served_once}

module _ {V E : Type 0} (entries : V → List E) (thread_of : E → ℕ) (ids_of : E → List ℕ) (kind_of : V → ℕ) (seats kind : ℕ) where
  abbrev St : Type 0
  St = State (Option V) (View E)

  abbrev Rule : St → Type 0
  Rule = IsKept entries thread_of ids_of kind_of seats kind

  abbrev Ok : List E → View E → Type 0
  Ok log = ViewFits thread_of ids_of log kind

  -- what a step owes of the table s, where it finds r
  abbrev Owes : St → ℕ → Me (Option V) (View E) → ℕ → (ℕ → ℕ) → (ℕ → Me (Option V) (View E) → Type 0) → ℕ → Type 0
  Owes s id me i f then r = (w : View E) × (a : Act (Option V)) × Valid s.homes me.1 a × Rule (stepped s i (f r) id me.1 w a) × then r (w, carried_after me.1 a)

  pub reads : (slots id : ℕ) (me : Me (Option V) (View E)) → seat_count me.0.hand.stage ≡ 1
      → Allows Rule slots id me 3 (λ n. n) (read_length entries thread_of ids_of kind_of (step slots 3 0 0 none) me)
  reads slots id me there s k _ at small = let found : get_or s.words 3 0 ≡ length k.log = ap (λ (l : List ℕ). get_or l 3 0) k.words in
      let ok = k.each id me.0 at in let h = ok.hand.here there in let n : ℕ = get_or s.words 3 0 in let w : View E = with_hand me.0 (with_known me.0.hand n) in let low = h.low in let high = h.high in (
        w,
        keeps,
        tt,
        quiet_state entries thread_of ids_of kind_of seats kind s k id 3 me.0 w at (λ x. refl) refl (λ x. refl) refl (λ x. refl) refl refl
            (each-set (Ok k.log) s.views id w record {
              hand = record { few = ok.hand.few; here = λ _. record { kind_is = h.kind_is; seen = h.seen; low = omega arith; high = omega arith; mine = h.mine; all_seen = h.all_seen; drew = h.drew; turn = h.turn } };
              others = ok.others;
              notes = ok.notes;
            } (λ j v _ e. k.each j v e)),
        (omega arith, omega arith, refl),
      )

  pub takes_ticket : (slots id : ℕ) (me : Me (Option V) (View E)) → me.0.hand.stage ≡ Idle
      → Allows Rule slots id me 1 (λ n. (n + 1) % 2 ^ 64) (took_ticket entries thread_of ids_of kind_of (step slots 1 1 0 none) me)
  takes_ticket slots id me idle s k _ at small = let found : get_or s.words 1 0 ≡ k.issued % 18446744073709551616 = ap (λ (l : List ℕ). get_or l 1 0) k.words in
      let ok = k.each id me.0 at in let there : seat_count me.0.hand.stage ≡ 1 = ap seat_count idle in let h = ok.hand.here there in
      let h' : Hand E = with_stage me.0.hand (Waits k.issued) in let w : View E = with_hand me.0 h' in
      let no_turn : turn_count me.0.hand.stage ≡ 0 = ap turn_count idle in let no_wait : length (tickets_of me.0.hand.stage) ≡ 0 = ap (λ (st : Stage). length (tickets_of st)) idle in
      let m = λ (f : Hand E → ℕ). hand-all f s.views id me.0 h' at in let tc = k.ticket_count in let few = ok.hand.few in
      let has_same : overall turns_in (set s.views id w) ≡ overall turns_in s.views = (let a = m turns_in in omega arith) in
      subst (Owes s id me 1 (λ n. (n + 1) % 18446744073709551616) (took_ticket entries thread_of ids_of kind_of (step slots 1 1 0 none) me)) (sym found) (
        w,
        keeps,
        tt,
        own_state entries thread_of ids_of kind_of seats kind s k id me.0 w (set s.words 1 ((k.issued % 18446744073709551616 + 1) % 18446744073709551616)) s.homes (k.issued + 1) k.served k.log at
            (ap (λ (l : List ℕ). set l 1 ((k.issued % 18446744073709551616 + 1) % 18446744073709551616)) k.words ∙ ap (λ (n : ℕ). k.next ∷ n ∷ k.served % 18446744073709551616 ∷ length k.log ∷ []) (next_mod k.issued))
            (λ x. refl) refl (λ x. let e : times x (threads_of me.0.hand.stage me.0.hand.thread) ≡ times x (me.0.hand.thread ∷ []) = ap (λ (st : Stage). times x (threads_of st me.0.hand.thread)) idle in omega arith) (omega arith)
            (λ x. once-more k.served k.issued x _ _ (omega arith) (k.tickets x)
            (let a = m (ticket_times x) in let z : times x (tickets_of me.0.hand.stage) ≡ 0 = ap (λ (st : Stage). times x (tickets_of st)) idle in
            let b : when (k.served == x) (overall turns_in (set s.views id w)) ≡ when (k.served == x) (overall turns_in s.views) = ap (when (k.served == x)) has_same in omega arith))
            (let a = m tickets_in in omega arith)
            (subst (SlotFits entries thread_of ids_of kind_of seats kind k.log s.homes) (sym has_same) k.slot) k.foreign
            (each-set (Ok k.log) s.views id w record {
              hand = record { few = omega arith; here = λ _. record { kind_is = h.kind_is; seen = h.seen; low = h.low; high = h.high; mine = h.mine; all_seen = h.all_seen; drew = h.drew; turn = λ q. absurd (omega arith) } };
              others = ok.others;
              notes = ok.notes;
            } (λ j v _ e. k.each j v e)),
        (k.issued, refl, refl),
      )

  pub tries_ticket : (slots id old new : ℕ) (me : Me (Option V) (View E)) → me.0.hand.stage ≡ Idle → new ≡ (old + 1) % 2 ^ 64
      → Allows Rule slots id me 1 (λ n. either (n == old) new n) (tried_ticket entries thread_of ids_of kind_of (step slots 1 old new none) me)
  tries_ticket slots id old new me idle is s k there at small = let n : ℕ = get_or s.words 1 0 in dite (ℕ_discrete n old)
      (λ hit. let t = takes_ticket slots id me idle s k there at small in
      let value : (n + 1) % 18446744073709551616 ≡ either (n == old) new n = ap (λ (z : ℕ). (z + 1) % 18446744073709551616) hit ∙ (sym is ∙ ap (λ (b : Bool). either b new n) (sym (eq-eqb n old hit))) in
      (t.0, t.1, t.2, subst (λ (z : ℕ). Rule (stepped s 1 z id me.1 t.0 t.1)) value t.3, ((λ _. t.4), (λ miss. absurd (miss hit)))))
      (λ miss. let value : n ≡ either (n == old) new n = ap (λ (b : Bool). either b new n) (sym (ne_eqb n old miss)) in (
        me.0,
        keeps,
        tt,
        subst (λ (z : ℕ). Rule (stepped s 1 z id me.1 me.0 keeps)) value (unmoved entries thread_of ids_of kind_of seats kind s k id 1 me.0 at),
        ((λ hit. absurd (miss hit)), λ _. refl),
      ))

  served_view : (log : List E) (v : View E) → Ok log v → seat_count v.hand.stage ≡ 1 → Ok log (with_hand v (at_turn v.hand log))
  served_view log v ok there = let h = ok.hand.here there in let few = ok.hand.few in record {
    hand = record {
      few = omega arith;
      here = λ _. record { kind_is = h.kind_is; seen = ([], append-nil log); low = omega arith; high = omega arith; mine = h.mine; all_seen = h.mine; drew = h.drew; turn = λ _. refl };
    };
    others = ok.others;
    notes = ok.notes;
  }

  -- at the ticket that is served no other seat has the turn
  nobody_else : (s : St) (k : Rule s) (id : ℕ) (v : View E) → get_elem? s.views id ≡ some v → v.hand.stage ≡ Waits k.served → (overall turns_in s.views ≡ 0) × (overall (ticket_times k.served) s.views ≡ 1)
  nobody_else s k id v at is = let o = served_once entries thread_of ids_of kind_of seats kind s k in let a = total-at (over (ticket_times k.served)) s.views id v at in
      let b : times k.served (tickets_of v.hand.stage) ≡ times k.served (k.served ∷ []) = ap (λ (st : Stage). times k.served (tickets_of st)) is in let c = is-same k.served k.served refl in (omega arith, omega arith)

  served_state : (s : St) (k : Rule s) (id : ℕ) (me : Me (Option V) (View E)) (v : V) → get_elem? s.views id ≡ some me.0 → me.0.hand.stage ≡ Waits k.served → s.homes ≡ some (Some v) ∷ []
      → Rule (stepped s 2 (get_or s.words 2 0) id me.1 (with_hand me.0 (at_turn me.0.hand k.log)) (takes 0 (Some v)))
  served_state s k id me v at is homes_is = let ok = k.each id me.0 at in let st : Stage = me.0.hand.stage in let there : seat_count st ≡ 1 = ap seat_count is in
      let h' : Hand E = at_turn me.0.hand k.log in let w : View E = with_hand me.0 h' in let m = λ (f : Hand E → ℕ). hand-all f s.views id me.0 h' at in
      let alone = nobody_else s k id me.0 at is in let one : length (tickets_of st) ≡ 1 = ap (λ (z : Stage). length (tickets_of z)) is in let none : turn_count st ≡ 0 = ap turn_count is in
      let turns' : overall turns_in (set s.views id w) ≡ 1 = (let a = m turns_in in let b = alone.0 in omega arith) in
      let turns : overall turns_in s.views ≡ 0 = alone.0 in
      own_state entries thread_of ids_of kind_of seats kind s k id me.0 w (set s.words 2 (get_or s.words 2 0)) (set s.homes 0 maybe.none) k.issued k.served k.log at
      (lib.Seq.set-get_or s.words 2 0 ∙ k.words)
      (λ x. refl) refl (λ x. let e : times x (threads_of st me.0.hand.thread) ≡ times x (me.0.hand.thread ∷ []) = ap (λ (z : Stage). times x (threads_of z me.0.hand.thread)) is in omega arith) (omega arith)
      (λ x. let a = m (ticket_times x) in let o = k.tickets x in let e : times x (tickets_of st) ≡ times x (k.served ∷ []) = ap (λ (z : Stage). times x (tickets_of z)) is in
      subst (Once k.served k.issued x)
      (dite (ℕ_discrete k.served x)
      (λ same. let p = is-same x k.served same in let q = when-same k.served x (overall turns_in (set s.views id w)) same in let r = when-same k.served x (overall turns_in s.views) same in omega arith)
      (λ other. let p = is-other x k.served other in let q = when-other k.served x (overall turns_in (set s.views id w)) other in let r = when-other k.served x (overall turns_in s.views) other in omega arith))
      o)
      (let a = m tickets_in in let b = k.ticket_count in omega arith)
      record { there = λ z. absurd (omega arith); away = λ _. ap (λ (l : List (maybe.Option (Option V))). set l 0 maybe.none) homes_is }
      k.foreign
      (each-set (Ok k.log) s.views id w (served_view k.log me.0 ok there) (λ j u _ e. k.each j u e))

  same_ticket : (a b : ℕ) → Waits a ≡ Waits b → a ≡ b
  same_ticket a b e = cc

  pub looks : (slots id ticket : ℕ) (me : Me (Option V) (View E)) → me.0.others ≡ [] → me.0.hand.stage ≡ Waits ticket
      → Allows Rule slots id me 2 (λ n. n) (looked entries thread_of ids_of kind_of (step slots 2 0 0 none) me)
  looks slots id ticket me bare waiting s k _ at small = let found : get_or s.words 2 0 ≡ k.served % 18446744073709551616 = ap (λ (l : List ℕ). get_or l 2 0) k.words in
      let n : ℕ = get_or s.words 2 0 in let ok = k.each id me.0 at in let there : seat_count me.0.hand.stage ≡ 1 = ap seat_count waiting in let h = ok.hand.here there in
      dite (ℕ_discrete n (ticket % 18446744073709551616))
      (λ hit. let a = total-at (over (ticket_times ticket)) s.views id me.0 at in
      let b : times ticket (tickets_of me.0.hand.stage) ≡ times ticket (ticket ∷ []) = ap (λ (st : Stage). times ticket (tickets_of st)) waiting in let c = is-same ticket ticket refl in
      let o = k.tickets ticket in
      let low : k.served ≤ ticket = dite (dec_le k.served ticket) (λ y. y) (λ y. let z = o.below (omega arith) in absurd (omega arith)) in
      let high : ticket < k.issued = dite (dec_le k.issued ticket) (λ y. let z = o.above y in absurd (omega arith)) (λ y. omega arith) in
      let bound = ticket_bound entries thread_of ids_of kind_of seats kind s k in
      let same : k.served ≡ ticket = one_turn k.served ticket 18446744073709551616 low (omega arith) (sym found ∙ hit) in
      let is : me.0.hand.stage ≡ Waits k.served = waiting ∙ ap (λ (z : ℕ). Waits z) (sym same) in
      let t = k.slot.there (nobody_else s k id me.0 at is).0 in
      let w : View E = with_hand me.0 (at_turn me.0.hand k.log) in
      let kept = served_state s k id me t.0 at is t.1 in (
        w,
        takes 0 (Some t.0),
        ap (λ (l : List (maybe.Option (Option V))). get_elem? l 0) t.1,
        kept,
        (λ j st. (
          (λ _. record {
            log = k.log;
            value = t.0;
            now = refl;
            entries_are = t.2;
            kind_is = t.3 ∙ sym h.kind_is;
            before = h.seen;
            known = h.high;
            own = h.mine;
            alone = alone entries thread_of ids_of kind_of seats kind (stepped s 2 n id me.1 w (takes 0 (Some t.0))) kept id w (set_here s.views id w (in_range s.views id me.0 at)) bare refl;
          }),
          λ miss. absurd (miss (hit ∙ ap (λ (z : ℕ). z % 18446744073709551616) (same_ticket ticket j (sym waiting ∙ st)))),
        )),
      ))
      (λ miss. (
        me.0,
        keeps,
        tt,
        unmoved entries thread_of ids_of kind_of seats kind s k id 2 me.0 at,
        (λ j st. ((λ hit. absurd (miss (hit ∙ ap (λ (z : ℕ). z % 18446744073709551616) (sym (same_ticket ticket j (sym waiting ∙ st)))))), λ _. refl)),
      ))

  -- what the served seat knows, it knows of the seat before it waited
  pub served_from : (m₀ m m' : Me (Option V) (View E)) (st : Stage) → m ≡ with_me m₀ (with_stage m₀.0.hand st) → Served entries thread_of ids_of kind_of m m' → Served entries thread_of ids_of kind_of m₀ m'
  served_from m₀ m m' st is told = let t = subst (λ (z : Me (Option V) (View E)). Served entries thread_of ids_of kind_of z m') is told in record {
    log = t.log;
    value = t.value;
    now = t.now;
    entries_are = t.entries_are;
    kind_is = t.kind_is;
    before = t.before;
    known = t.known;
    own = t.own;
    alone = t.alone;
  }
