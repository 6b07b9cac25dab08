use Rattle.std.proofs.Common.{rules, ap, ◌∙◌}
use Rattle.gfx_seats.specs.Stage.{seat_count, turn_count}
use Rattle.gfx_seats.specs.Hand.{note_of}
use Rattle.gfx_seats.proofs.Meets.{jots, takes_note, learns, noted-is, learnt-of, learnt-is}
use Rattle.gfx_seats.proofs.meeting.tell.Goals as goal

pub split_seat-note-requires : goal.split_seat-note-requires
split_seat-note-requires g c = let v = g.V.Grows in (search rules, search rules, jots v.entries v.thread_of v.ids_of v.kind _ _ _ _ c.requires.there.0)

pub join_seat-requires : goal.join_seat-requires
join_seat-requires g c = let v = g.V.Grows in let note = c.split_seat-note.ensures.4 in
    (search rules, search rules, search rules, search rules, takes_note v.entries v.thread_of v.ids_of v.kind _ _ _ _ _ _ c.args.from.now.me.0.hand (ap (λ m. m.0) note))

pub load-requires : goal.load-requires
load-requires g c = let v = g.V.Grows in let h = c.args.from.now.me.0.hand in
    let now = noted-is v.entries v.thread_of v.ids_of v.kind c.args.to.now.me c.join_seat.new.seat.me _ h c.join_seat.ensures.2 (ap (λ m. m.0) c.split_seat-note.ensures.4) c.requires.bare.1 in
    (search rules, search rules, learns v.entries v.thread_of v.ids_of v.kind _ _ _ _ _ (note_of h) (ap (λ m. m.0.others) now ∙ c.requires.bare.0) (ap (λ m. seat_count m.0.hand.stage) now ∙ c.requires.there.1) (ap (λ m. m.0.notes) now))

pub returns-clause-to : goal.returns-clause-to
returns-clause-to g c = let v = g.V.Grows in let h = c.args.from.now.me.0.hand in let me = c.args.to.now.me in
    let now = noted-is v.entries v.thread_of v.ids_of v.kind me c.join_seat.new.seat.me _ h c.join_seat.ensures.2 (ap (λ m. m.0) c.split_seat-note.ensures.4) c.requires.bare.1 in
    learnt-is v.entries v.thread_of v.ids_of v.kind me c.load.new.seat.me h c.requires.bare.1 (learnt-of v.entries v.thread_of v.ids_of v.kind me c.join_seat.new.seat.me c.load.new.seat.me h now c.load.ensures.2)

pub returns-clause-before : goal.returns-clause-before
returns-clause-before g c = let v = g.V.Grows in let h = c.args.from.now.me.0.hand in let me = c.args.to.now.me in
    let now = noted-is v.entries v.thread_of v.ids_of v.kind me c.join_seat.new.seat.me _ h c.join_seat.ensures.2 (ap (λ m. m.0) c.split_seat-note.ensures.4) c.requires.bare.1 in
    (learnt-of v.entries v.thread_of v.ids_of v.kind me c.join_seat.new.seat.me c.load.new.seat.me h now c.load.ensures.2).before

pub returns-clause-told : goal.returns-clause-told
returns-clause-told g c = let v = g.V.Grows in let h = c.args.from.now.me.0.hand in let me = c.args.to.now.me in
    let now = noted-is v.entries v.thread_of v.ids_of v.kind me c.join_seat.new.seat.me _ h c.join_seat.ensures.2 (ap (λ m. m.0) c.split_seat-note.ensures.4) c.requires.bare.1 in
    (learnt-of v.entries v.thread_of v.ids_of v.kind me c.join_seat.new.seat.me c.load.new.seat.me h now c.load.ensures.2).told

pub returns-clause-turn : goal.returns-clause-turn
returns-clause-turn g c has_turn = let v = g.V.Grows in let h = c.args.from.now.me.0.hand in let me = c.args.to.now.me in
    let now = noted-is v.entries v.thread_of v.ids_of v.kind me c.join_seat.new.seat.me _ h c.join_seat.ensures.2 (ap (λ m. m.0) c.split_seat-note.ensures.4) c.requires.bare.1 in
    (learnt-of v.entries v.thread_of v.ids_of v.kind me c.join_seat.new.seat.me c.load.new.seat.me h now c.load.ensures.2).turn (ap turn_count has_turn)

pub returns-clause-own : goal.returns-clause-own
returns-clause-own g c = let v = g.V.Grows in let h = c.args.from.now.me.0.hand in let me = c.args.to.now.me in
    let now = noted-is v.entries v.thread_of v.ids_of v.kind me c.join_seat.new.seat.me _ h c.join_seat.ensures.2 (ap (λ m. m.0) c.split_seat-note.ensures.4) c.requires.bare.1 in
    (learnt-of v.entries v.thread_of v.ids_of v.kind me c.join_seat.new.seat.me c.load.new.seat.me h now c.load.ensures.2).own

pub returns-clause-alone : goal.returns-clause-alone
returns-clause-alone g c = let v = g.V.Grows in let h = c.args.from.now.me.0.hand in let me = c.args.to.now.me in
    let now = noted-is v.entries v.thread_of v.ids_of v.kind me c.join_seat.new.seat.me _ h c.join_seat.ensures.2 (ap (λ m. m.0) c.split_seat-note.ensures.4) c.requires.bare.1 in
    (learnt-of v.entries v.thread_of v.ids_of v.kind me c.join_seat.new.seat.me c.load.new.seat.me h now c.load.ensures.2).alone

pub returns-clause-knows : goal.returns-clause-knows
returns-clause-knows g c = let v = g.V.Grows in let h = c.args.from.now.me.0.hand in let me = c.args.to.now.me in
    let now = noted-is v.entries v.thread_of v.ids_of v.kind me c.join_seat.new.seat.me _ h c.join_seat.ensures.2 (ap (λ m. m.0) c.split_seat-note.ensures.4) c.requires.bare.1 in
    (learnt-of v.entries v.thread_of v.ids_of v.kind me c.join_seat.new.seat.me c.load.new.seat.me h now c.load.ensures.2).knows
