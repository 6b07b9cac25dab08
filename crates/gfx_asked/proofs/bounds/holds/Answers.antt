use Rattle.gfx_asked.proofs.Places.{last_says, none_says}
use Rattle.gfx_asked.proofs.bounds.holds.Goals as goal

pub returns-in-Some : goal.returns-in-Some
returns-in-Some c =
    last_says c.args.bounds.now c.args.number c.range.result c.next_back.new.self (c.in-Some.field-0-0.now, c.in-Some.held.now) c.in-Some.ensures.steps (c.range.ensures.in_range tt)

pub returns-in-None : goal.returns-in-None
returns-in-None c = none_says c.args.bounds.now c.args.number c.range.result (c.in-None.ensures.steps).0 (c.range.ensures.in_range tt)
