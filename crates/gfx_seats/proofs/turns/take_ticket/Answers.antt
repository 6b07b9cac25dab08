use Rattle.std.proofs.Common.{rules, ap, ◌∙◌}
use Rattle.gfx_seats.proofs.Tickets.{takes_ticket, tries_ticket}
use Rattle.gfx_seats.proofs.turns.take_ticket.Goals as goal

pub compare_exchange-found-requires : goal.compare_exchange-found-requires
compare_exchange-found-requires g c = let v = g.V.Grows in
    (search rules, search rules, tries_ticket v.entries v.thread_of v.ids_of v.kind _ _ _ _ _ _ _ (ap (λ m. m.0.hand.stage) c.loop.invariant.1 ∙ c.requires.idle) (search rules))

pub fetch_add-requires : goal.fetch_add-requires
fetch_add-requires g c = let v = g.V.Grows in
    (search rules, search rules, takes_ticket v.entries v.thread_of v.ids_of v.kind _ _ _ _ _ (ap (λ m. m.0.hand.stage) c.loop.invariant.1 ∙ c.requires.idle))
