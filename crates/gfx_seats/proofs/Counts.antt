-- The count step and leaving keep the rule.
use Rattle.std.proofs.Common.{◌≡◌, ◌≢◌, ℕ, ◌+◌, ◌%◌, ◌^◌, ◌<◌, ◌≤◌, ◌==◌, List, [], ◌∷◌, ◌++◌, length, get_or, set, sym, refl, ap, ◌∙◌, subst, arith, length-append, append-nil, append_assoc, Option, Some}
use mathlib.Core.Logic.{dite}
use mathlib.Core.Option.{none, some}
use mathlib.Core.Option as maybe
use native.Mathlib.Decide.{ℕ_discrete, dec_le}
use Rattle.atomic_table.specs.Table.{State, Me, step, keeps, gives, stepped, Allows, homes_after}
use Rattle.atomic_table.proofs.Lists.{set_here}
use Rattle.gfx_seats.specs.declared.stage.Stage.{Stage}
use Rattle.gfx_seats.specs.declared.stage.Stage.TheVariants.{Absent, Idle, Waits, HasTurn}
use Rattle.gfx_seats.specs.declared.hand.Hand.{Hand}
use Rattle.gfx_seats.specs.declared.view.View.{View}
use mathlib.Core.List.{IsPrefix}
use Rattle.gfx_seats.specs.Entries.{AreAmong, IsEntryOf, times, entries_of, created, Adds}
use Rattle.gfx_seats.specs.Stage.{seat_count, turn_count, tickets_of, threads_of}
use Rattle.gfx_seats.specs.Hand.{with_stage, longer, grown_hand, thread_times, ticket_times, tickets_in, turns_in}
use Rattle.gfx_seats.specs.View.{with_hand, over, overall}
use Rattle.gfx_seats.specs.Rule.{Once, when, Each, HandFits, ViewFits, IsKept}
use Rattle.gfx_seats.specs.Steps.{taken, with_me, drew, counted, left_turn}
use Rattle.gfx_seats.proofs.Totals.{total-at, total-two, total-found, total-append, each-set, each-nil, each-from_All, is-same}
use Rattle.gfx_seats.proofs.Entries.{entries_of-append, entries_of-all, entries_of-none}
use Rattle.gfx_seats.proofs.Hands.{hand-all, alone, once-le}
use Rattle.gfx_seats.proofs.Own.{when-other, when-zero, next_mod, in_range, own_state, served_once}

named-mine : (st : Stage) (t u : ℕ) → seat_count st ≡ 1 → u ≡ t → times t (threads_of st u) ≡ 1
named-mine Absent t u p e = absurd (omega arith)
named-mine Idle t u p e = let z = is-same t u e in omega arith
named-mine (Waits k) t u p e = let z = is-same t u e in omega arith
named-mine HasTurn t u p e = let z = is-same t u e in omega arith

module _ {V E : Type 0} (entries : V → List E) (thread_of : E → ℕ) (ids_of : E → List ℕ) (kind_of : V → ℕ) (seats kind : ℕ) where
  abbrev St : Type 0
  St = State (Option V) (View E)

  abbrev Rule : St → Type 0
  Rule = IsKept entries thread_of ids_of kind_of seats kind

  abbrev Ok : List E → View E → Type 0
  Ok log = ViewFits thread_of ids_of log kind

  prefix_more : (xs log more : List E) → IsPrefix xs log → IsPrefix xs (log ++ more)
  prefix_more xs log more p = (p.0 ++ more, sym (append_assoc xs p.0 more) ∙ ap (λ (z : List E). z ++ more) p.1)

  hand_more : (log more : List E) (t : ℕ) (h : Hand E) → HandFits thread_of ids_of log kind h → Each (λ e. thread_of e ≡ t) more → thread_times t h ≡ 0 → turns_in h ≡ 0 → HandFits thread_of ids_of (log ++ more) kind h
  hand_more log more t h ok all_mine not_mine no_turn = let few = ok.few in let l = length-append log more in record {
    few = ok.few;
    here = λ there. let o = ok.here there in let other : h.thread ≢ t = (λ e. let z = named-mine h.stage t h.thread there e in omega arith) in let high = o.high in record {
      kind_is = o.kind_is;
      seen = prefix_more h.seen log more o.seen;
      low = o.low;
      high = omega arith;
      mine = entries_of-append thread_of h.thread log more ∙ (ap (λ (z : List E). entries_of thread_of h.thread log ++ z) (entries_of-none thread_of t h.thread more all_mine other) ∙ (append-nil (entries_of thread_of h.thread log) ∙ o.mine));
      all_seen = o.all_seen;
      drew = o.drew;
      turn = λ e. absurd (omega arith);
    };
  }

  view_more : (log more : List E) (t : ℕ) (v : View E) → Ok log v → Each (λ e. thread_of e ≡ t) more → over (thread_times t) v ≡ 0 → over turns_in v ≡ 0 → Ok (log ++ more) v
  view_more log more t v ok all_mine not_mine no_turn = record {
    hand = hand_more log more t v.hand ok.hand all_mine (omega arith) (omega arith);
    others = λ j h at. let a = total-at (thread_times t) v.others j h at in let b = total-at turns_in v.others j h at in hand_more log more t h (ok.others j h at) all_mine (omega arith) (omega arith);
    notes = λ j n at. let o = ok.notes j n at in let high = o.high in let l = length-append log more in record { kind_is = o.kind_is; seen = prefix_more n.seen log more o.seen; low = o.low; high = omega arith };
  }

  grown_view : (v : View E) (log more es : List E) (ids : List ℕ) → Ok log v → v.others ≡ [] → seat_count v.hand.stage ≡ 1 → es ≡ log ++ more
      → Each (IsEntryOf thread_of ids_of v.hand.thread ids) more → AreAmong ids v.hand.drawn
      → Ok es (with_hand v (grown_hand thread_of v.hand es))
  grown_view v log more es ids ok bare there is new drew = let h = ok.hand.here there in let t = v.hand.thread in record {
    hand = record {
      few = ok.hand.few;
      here = λ _. record {
        kind_is = h.kind_is;
        seen = ([], append-nil es);
        low = omega arith;
        high = omega arith;
        mine = refl;
        all_seen = refl;
        drew = λ x pos. let parts : entries_of thread_of t es ≡ entries_of thread_of t log ++ more = ap (entries_of thread_of t) is ∙ (entries_of-append thread_of t log more ∙ ap (λ (z : List E). entries_of thread_of t log ++ z) (entries_of-all thread_of t more (λ j e q. (new j e q).0))) in
            let sum = total-append (λ (e : E). times x (ids_of e)) (entries_of thread_of t log) more in let p : created ids_of x (entries_of thread_of t es) ≡ created ids_of x (entries_of thread_of t log ++ more) = ap (created ids_of x) parts in
            let q : created ids_of x (entries_of thread_of t log) ≡ created ids_of x v.hand.mine = ap (created ids_of x) h.mine in
            dite (ℕ_discrete (created ids_of x v.hand.mine) 0)
            (λ none_old. let r = total-found (λ (e : E). times x (ids_of e)) more (omega arith) in drew x ((new r.0 r.1 r.2).1 x r.3))
            (λ some_old. h.drew x (omega arith));
        turn = λ _. refl;
      };
    };
    others = subst (λ (l : List (Hand E)). Each (HandFits thread_of ids_of es kind) l) (sym bare) (each-nil (HandFits thread_of ids_of es kind));
    notes = λ j n at. let o = ok.notes j n at in let high = o.high in let l = length-append log more in let e = ap length is in
        record { kind_is = o.kind_is; seen = subst (λ (z : List E). IsPrefix n.seen z) (sym is) (prefix_more n.seen log more o.seen); low = o.low; high = omega arith };
  }

  same_value : (a b : V) (l : List (ℕ × Option V)) → l ≡ (0, Some a) ∷ [] → l ≡ (0, Some b) ∷ [] → a ≡ b
  same_value a b l p q = let e : Some a ≡ Some b = sym (ap (λ (z : List (ℕ × Option V)). taken z) p) ∙ ap (λ (z : List (ℕ × Option V)). taken z) q in cc

  pub counts : (slots id d : ℕ) (me : Me (Option V) (View E)) (v : V) (ids : List ℕ) → me.0.others ≡ [] → me.0.hand.stage ≡ HasTurn → me.1 ≡ (0, Some v) ∷ []
      → Adds thread_of ids_of me.0.hand.seen me.0.hand.thread ids (entries v) → AreAmong ids me.0.hand.drawn
      → length me.0.hand.seen + d ≡ length (entries v) → length (entries v) < 18446744073709551616
      → Allows Rule slots id me 3 (λ n. (n + d) % 2 ^ 64) (counted entries thread_of ids_of kind_of (step slots 3 d 0 none) me)
  counts slots id d me v ids bare is_has carries adds drew longer fits s k _ at small =
      let found : get_or s.words 3 0 ≡ length k.log = ap (λ (l : List ℕ). get_or l 3 0) k.words in let n : ℕ = get_or s.words 3 0 in
      let turn : turn_count me.0.hand.stage ≡ 1 = ap turn_count is_has in let there : seat_count me.0.hand.stage ≡ 1 = ap seat_count is_has in let ok = k.each id me.0 at in let h = ok.hand.here there in
      let whole : me.0.hand.seen ≡ k.log = h.turn turn in let es : List E = entries v in let more = adds.0 in let new = each-from_All (IsEntryOf thread_of ids_of me.0.hand.thread ids) more adds.2 in
      let is : es ≡ k.log ++ more = adds.1 ∙ ap (λ (z : List E). z ++ more) whole in let wl = ap length whole in
      let t : ℕ = me.0.hand.thread in let w : View E = with_hand me.0 (grown_hand thread_of me.0.hand es) in
      let mine_new : Each (λ e. thread_of e ≡ t) more = (λ j e q. (new j e q).0) in
      let own : times t (threads_of me.0.hand.stage t) ≡ 1 = named-mine me.0.hand.stage t t there refl in let ones = once-le 0 seats t _ (k.threads t) in
      let has_once : overall turns_in s.views ≤ 1 = (let z = served_once entries thread_of ids_of kind_of seats kind s k in omega arith) in
      let at_thread = total-at (over (thread_times t)) s.views id me.0 at in let at_turn = total-at (over turns_in) s.views id me.0 at in
      let mine_in : t < seats = dite (dec_le seats t) (λ y. let z = (k.threads t).above y in absurd (omega arith)) (λ y. omega arith) in
      let hs = λ (f : Hand E → ℕ). Rattle.gfx_seats.proofs.Own.same_over f s.views id me.0 w at in
      let kept : Rule (stepped s 3 ((n + d) % 18446744073709551616) id me.1 w keeps) = own_state entries thread_of ids_of kind_of seats kind s k id me.0 w (set s.words 3 ((n + d) % 18446744073709551616)) s.homes k.issued k.served es at
      (ap (λ (l : List ℕ). set l 3 ((n + d) % 18446744073709551616)) k.words ∙ ap (λ (z : ℕ). k.next ∷ k.issued % 18446744073709551616 ∷ k.served % 18446744073709551616 ∷ z ∷ []) (omega arith))
      (λ x. refl) refl (λ x. refl) refl
      (λ x. subst (λ (z : ℕ × ℕ). Once k.served k.issued x (z.0 + when (k.served == x) z.1)) (λ i. (sym (hs (ticket_times x) refl) i, sym (hs turns_in refl) i)) (k.tickets x))
      (let a = hs tickets_in refl in let b = hs turns_in refl in let c = k.ticket_count in omega arith)
      (let b = hs turns_in refl in record { there = λ z. absurd (omega arith); away = λ _. k.slot.away (omega arith) })
      (λ x out. ap (entries_of thread_of x) is ∙ (entries_of-append thread_of x k.log more ∙ (λ i. k.foreign x out i ++ entries_of-none thread_of t x more mine_new (λ e. omega arith) i)))
      (each-set (Ok es) s.views id w (grown_view me.0 k.log more es ids ok bare there is new drew)
      (λ j u other e. subst (λ (z : List E). Ok z u) (sym is)
      (let a = total-two (over (thread_times t)) s.views id j me.0 u (λ q. other (sym q)) at e in let b = total-two (over turns_in) s.views id j me.0 u (λ q. other (sym q)) at e in
      view_more k.log more t u (k.each j u e) mine_new (omega arith) (omega arith)))) in (
        w,
        keeps,
        tt,
        kept,
        (λ v' carries'. let same : v ≡ v' = same_value v v' me.1 carries carries' in (
          ap (λ (z : V). with_me me (grown_hand thread_of me.0.hand (entries z))) same,
          alone entries thread_of ids_of kind_of seats kind (stepped s 3 ((n + d) % 18446744073709551616) id me.1 w keeps) kept id w (set_here s.views id w (in_range s.views id me.0 at)) bare there,
        )),
      )

  pub leaves : (slots id : ℕ) (me : Me (Option V) (View E)) (v : V) → me.0.hand.stage ≡ HasTurn → me.1 ≡ (0, Some v) ∷ [] → entries v ≡ me.0.hand.seen → kind_of v ≡ me.0.hand.kind
      → Allows Rule slots id me 2 (λ n. (n + 1) % 2 ^ 64) (left_turn entries thread_of ids_of kind_of (step slots 2 1 0 none) me)
  leaves slots id me v is_has carries entries_are kind_is s k _ at small =
      let found : get_or s.words 2 0 ≡ k.served % 18446744073709551616 = ap (λ (l : List ℕ). get_or l 2 0) k.words in let n : ℕ = get_or s.words 2 0 in
      let turn : turn_count me.0.hand.stage ≡ 1 = ap turn_count is_has in let st : Stage = me.0.hand.stage in let there : seat_count st ≡ 1 = ap seat_count is_has in let ok = k.each id me.0 at in let h = ok.hand.here there in
      let h' : Hand E = with_stage me.0.hand Idle in let w : View E = with_hand me.0 h' in let m = λ (f : Hand E → ℕ). hand-all f s.views id me.0 h' at in
      let no_ticket : length (tickets_of st) ≡ 0 = ap (λ (z : Stage). length (tickets_of z)) is_has in let few = ok.hand.few in
      let once = served_once entries thread_of ids_of kind_of seats kind s k in let at_turn = total-at (over turns_in) s.views id me.0 at in
      let one : overall turns_in s.views ≡ 1 = omega arith in let none_waits : overall (ticket_times k.served) s.views ≡ 0 = omega arith in
      let none_left : overall turns_in (set s.views id w) ≡ 0 = (let a = m turns_in in omega arith) in
      let waits_same = λ (x : ℕ). (let p : overall (ticket_times x) (set s.views id w) ≡ overall (ticket_times x) s.views = (let a = m (ticket_times x) in let z : times x (tickets_of st) ≡ 0 = ap (λ (z : Stage). times x (tickets_of z)) is_has in omega arith) in p) in
      let kept : Rule record { words = set s.words 2 ((n + 1) % 18446744073709551616); homes = set s.homes 0 (some (Some v)); views = set s.views id w } =
      own_state entries thread_of ids_of kind_of seats kind s k id me.0 w (set s.words 2 ((n + 1) % 18446744073709551616)) (set s.homes 0 (some (Some v))) k.issued (k.served + 1) k.log at
      (ap (λ (l : List ℕ). set l 2 ((n + 1) % 18446744073709551616)) k.words ∙ ap (λ (z : ℕ). k.next ∷ k.issued % 18446744073709551616 ∷ z ∷ length k.log ∷ []) (ap (λ (z : ℕ). (z + 1) % 18446744073709551616) found ∙ next_mod k.served))
      (λ x. refl) refl (λ x. let e : times x (threads_of st me.0.hand.thread) ≡ times x (me.0.hand.thread ∷ []) = ap (λ (z : Stage). times x (threads_of z me.0.hand.thread)) is_has in omega arith) (omega arith)
      (λ x. let o = k.tickets x in let a = waits_same x in
      let z : when (k.served + 1 == x) (overall turns_in (set s.views id w)) ≡ 0 = ap (when (k.served + 1 == x)) none_left ∙ when-zero (k.served + 1 == x) in
      record {
        inside = λ low high. let y = when-other k.served x (overall turns_in s.views) (λ q. omega arith) in let u = o.inside (omega arith) high in omega arith;
        below = λ low. dite (ℕ_discrete k.served x)
            (λ same. let u : overall (ticket_times x) s.views ≡ overall (ticket_times k.served) s.views = ap (λ (c : ℕ). overall (ticket_times c) s.views) (sym same) in omega arith)
            (λ other. let u = o.below (omega arith) in omega arith);
        above = λ high. let u = o.above high in omega arith;
      })
      (let a = m tickets_in in let c = k.ticket_count in omega arith)
      record { there = λ _. (v, ap (λ (l : List (maybe.Option (Option V))). set l 0 (some (Some v))) (k.slot.away (omega arith)), entries_are ∙ h.turn turn, kind_is ∙ h.kind_is); away = λ z. absurd (omega arith) }
      k.foreign
      (each-set (Ok k.log) s.views id w record {
        hand = record { few = omega arith; here = λ _. record { kind_is = h.kind_is; seen = h.seen; low = h.low; high = h.high; mine = h.mine; all_seen = h.all_seen; drew = h.drew; turn = λ q. absurd (omega arith) } };
        others = ok.others;
        notes = ok.notes;
      } (λ j u _ e. k.each j u e)) in (
        w,
        gives,
        tt,
        subst (λ (c : List (ℕ × Option V)). Rule record { words = set s.words 2 ((n + 1) % 18446744073709551616); homes = homes_after s.homes c gives; views = set s.views id w }) (sym carries) kept,
        refl,
      )
