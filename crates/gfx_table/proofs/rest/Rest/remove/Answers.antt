use Rattle.gfx_table.proofs.Marking.{marked_remove}
use Rattle.gfx_table.proofs.rest.Rest.remove.Goals as goal

pub invariant_of-self : goal.invariant_of-self
invariant_of-self g c = marked_remove c.self.inside.marks.items c.self.inside.rows.map c.remove.new.self.map c.args.id c.remove.ensures.map c.self.invariant
