use Rattle.std.proofs.Common.{rules, ◌≡◌, ℕ, ◌+◌, ◌-◌, ◌<◌, ◌∷◌, List, length, Some, None, sym, ap, ◌∙◌, subst}
use Rattle.atomic_table.specs.Table.{rest}
use Rattle.gfx_seats.specs.Entries.{AreAmong, Adds}
use Rattle.gfx_seats.specs.Hand.{grown_hand}
use Rattle.gfx_seats.proofs.Counts.{counts}
use Rattle.gfx_seats.proofs.Appends.{appended, added-length, in_slot, exchanged_twice}
use Rattle.gfx_seats.proofs.turns.grow_in_slot.Goals as goal

pub exchange-requires : goal.exchange-requires
exchange-requires g c = let v = c.requires.value in let is = v.1 in (search rules, (Some v.0, is ∙ ap (λ l. (0, Some v.0) ∷ l) (sym (ap (λ l. rest l) is))))

pub fetch_add-requires : goal.fetch_add-requires
fetch_add-requires g c = let v = c.requires.value in let gv = g.V.Grows in let h = c.args.token.now.me.0.hand in let grown = c.grow-answer.new.self in
    let now = exchanged_twice c.args.token.now.me c.exchange.new.seat.me c.exchange-2.new.seat.me v.0 None (Some grown) v.1 c.exchange.ensures.3 c.exchange-2.ensures.3 in
    let same : v.0 ≡ c.in-Some.value = in_slot _ _ _ _ _ v.1 c.exchange.ensures.2 c.in-Some.is in
    let seen : gv.entries c.in-Some.value ≡ h.seen = ap gv.entries (sym same) ∙ v.2 in
    let seen' : gv.entries c.in-Some.value ≡ c.exchange-2.new.seat.me.0.hand.seen = seen ∙ sym (ap (λ m. m.0.hand.seen) now) in
    let adds = c.grow-answer.ensures.added in
    let long = added-length gv.thread_of gv.ids_of _ _ _ _ adds in
    let more = c.length-after.result - c.length-before.result in
    let d : more ≡ length (gv.entries grown) - length (gv.entries c.in-Some.value) = (λ i. c.length-after.ensures i - c.length-before.ensures i) in (
      search rules,
      search rules,
      counts gv.entries gv.thread_of gv.ids_of gv.kind _ _ _ _ more c.exchange-2.new.seat.me grown (gv.named c.args.work.now)
          (ap (λ m. m.0.others) now ∙ c.requires.turn.1) (ap (λ m. m.0.hand.stage) now ∙ c.requires.turn.0) (ap (λ m. m.1) now)
          (subst (λ (z : List g.row.V-Entry.Denot × ℕ). Adds gv.thread_of gv.ids_of z.0 z.1 (gv.named c.args.work.now) (gv.entries grown)) (λ i. (seen' i, (c.requires.turn.2 ∙ sym (ap (λ m. m.0.hand.thread) now)) i)) adds)
          (subst (AreAmong (gv.named c.args.work.now)) (sym (ap (λ m. m.0.hand.drawn) now)) c.requires.drew)
          (ap (λ (n : ℕ). n + more) (sym (ap length seen')) ∙ (ap (λ (n : ℕ). length (gv.entries c.in-Some.value) + n) d ∙ long))
          (subst (λ (n : ℕ). n < 18446744073709551616) c.length-after.ensures c.length-after.type_inv),
    )

pub returns-clause-appended : goal.returns-clause-appended
returns-clause-appended g c = let v = c.requires.value in let gv = g.V.Grows in let h = c.args.token.now.me.0.hand in let grown = c.grow-answer.new.self in
    let now = exchanged_twice c.args.token.now.me c.exchange.new.seat.me c.exchange-2.new.seat.me v.0 None (Some grown) v.1 c.exchange.ensures.3 c.exchange-2.ensures.3 in
    let same : v.0 ≡ c.in-Some.value = in_slot _ _ _ _ _ v.1 c.exchange.ensures.2 c.in-Some.is in
    let seen : gv.entries c.in-Some.value ≡ h.seen = ap gv.entries (sym same) ∙ v.2 in
    let told = c.fetch_add.ensures.2 grown (ap (λ m. m.1) now) in
    appended gv.thread_of gv.ids_of h _ (gv.entries grown) (gv.named c.args.work.now)
    (ap (λ m. m.0.hand) told.0 ∙ ap (λ m. grown_hand gv.thread_of m.0.hand (gv.entries grown)) now)
    c.requires.own
    (subst (λ (z : List g.row.V-Entry.Denot × ℕ). Adds gv.thread_of gv.ids_of z.0 z.1 (gv.named c.args.work.now) (gv.entries grown)) (λ i. (seen i, c.requires.turn.2 i)) c.grow-answer.ensures.added)

pub returns-clause-alone : goal.returns-clause-alone
returns-clause-alone g c = let v = c.requires.value in let grown = c.grow-answer.new.self in
    let now = exchanged_twice c.args.token.now.me c.exchange.new.seat.me c.exchange-2.new.seat.me v.0 None (Some grown) v.1 c.exchange.ensures.3 c.exchange-2.ensures.3 in
    (c.fetch_add.ensures.2 grown (ap (λ m. m.1) now)).1
