use Rattle.std.proofs.Common.{rules, ap, ◌∙◌}
use Rattle.gfx_seats.proofs.Tickets.{looks, served_from}
use Rattle.gfx_seats.proofs.turns.wait_for_turn.Goals as goal

pub load-serving-requires : goal.load-serving-requires
load-serving-requires g c = let is = c.loop.invariant.1.2 in (
  search rules,
  search rules,
  looks g.V.Grows.entries g.V.Grows.thread_of g.V.Grows.ids_of g.V.Grows.kind _ _ _ _ c.loop.invariant.1.0 _ (ap (λ m. m.0.others) is ∙ c.requires.idle.2) (ap (λ m. m.0.hand.stage) is),
)

pub returns-then-serving-ticket-clause-served : goal.returns-then-serving-ticket-clause-served
returns-then-serving-ticket-clause-served g c = let is = c.loop.invariant.1.2 in let told = c.load-serving.ensures.2 c.loop.invariant.1.0 (ap (λ m. m.0.hand.stage) is) in
    served_from g.V.Grows.entries g.V.Grows.thread_of g.V.Grows.ids_of g.V.Grows.kind 0 0 _ _ _ _ is (told.0 (search rules))
