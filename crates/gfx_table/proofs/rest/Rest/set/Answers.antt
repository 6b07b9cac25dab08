use Rattle.gfx_table.proofs.Marking.{marked_insert}
use Rattle.gfx_table.proofs.rest.Rest.set.Goals as goal

pub invariant_of-self : goal.invariant_of-self
invariant_of-self g c =
    let s = c.self.inside in
    marked_insert s.marks.items c.mark.new.marks.items s.rows.map c.set.new.self.map c.args.id c.args.row c.set.ensures.map c.mark.ensures.own c.mark.ensures.others c.self.invariant
