use Rattle.gfx_asked.proofs.Places.{first_next}
use Rattle.gfx_asked.proofs.bounds.next_between.Goals as goal

pub returns-in-Some : goal.returns-in-Some
returns-in-Some c = first_next c.args.bounds.now c.args.from c.args.to c.range.result c.next.new.self (c.in-Some.next.now, c.in-Some.field-0-1.now) c.in-Some.ensures.steps (c.range.ensures.in_range tt)
