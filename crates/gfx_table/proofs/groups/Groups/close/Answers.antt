use Rattle.gfx_table.proofs.Grouping.{closed, closed_room}
use Rattle.gfx_table.proofs.groups.Groups.close.Goals as goal

pub returns-clause-members : goal.returns-clause-members
returns-clause-members c = closed c.args.self.now.sets.map c.remove-set.new.self.map c.args.group c.remove-set.ensures.map

pub returns-clause-others : goal.returns-clause-others
returns-clause-others c = closed_room c.args.self.now.sets.map c.remove-set.new.self.map c.args.group c.remove-set.ensures.map
