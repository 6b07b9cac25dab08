use Rattle.gfx_table.proofs.Leasts.{range_first, range_empty}
use Rattle.gfx_table.proofs.ordered.next_in_tree.Goals as goal

pub returns-in-Some : goal.returns-in-Some
returns-in-Some g c = range_first c.args.rows.now.entries c.range.result c.next.new.self c.args.after (c.in-Some.id.now, c.in-Some.field-0-1.now) (c.range.ensures.between tt) c.in-Some.ensures.steps c.range.ensures.ordered

pub returns-in-None : goal.returns-in-None
returns-in-None g c = range_empty c.args.rows.now.entries c.range.result c.args.after (c.range.ensures.between tt) c.in-None.ensures.steps.0 c.range.ensures.ordered
