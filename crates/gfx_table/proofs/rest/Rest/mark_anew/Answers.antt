use Rattle.std.proofs.Common.{refl}
use Rattle.gfx_table.proofs.Marking.{marked_none, none_of_none}
use Rattle.gfx_table.proofs.rest.Rest.mark_anew.Goals as goal

pub invariant_of-self : goal.invariant_of-self
invariant_of-self g c = marked_none c.in-Ok.marks.items c.self.inside.rows.map (none_of_none c.self.inside.rows.map (c.if-not-is_empty.ensures.0 refl))
