use Rattle.std.proofs.Common.{Some, None, sym, ◌∙◌}
use Rattle.gfx_table.proofs.Grouping.{kept}
use Rattle.gfx_table.proofs.groups.Groups.members.Goals as goal

pub returns-in-Some-clause-all : goal.returns-in-Some-clause-all
returns-in-Some-clause-all c id = c.ids.ensures.all id ∙ sym (kept c.args.self.now.sets.map c.args.group id (Some c.in-Some.set.now) (sym c.in-Some.ensures))

pub returns-in-None-clause-all : goal.returns-in-None-clause-all
returns-in-None-clause-all c id = sym (kept c.args.self.now.sets.map c.args.group id None (sym c.in-None.ensures))
