use Rattle.std.proofs.Common.{ap, sym, ◌∙◌}
use Rattle.std.specs.FinMap as map
use Rattle.gfx_table.proofs.Marking.{unmarked}
use Rattle.gfx_table.proofs.rest.Rest.get.Goals as goal

pub returns-else-has_mark : goal.returns-else-has_mark
returns-else-has_mark g c =
    let off = rw c.deref.ensures.value at (sym c.has_mark.ensures ∙ c.if-has_mark.false) in
    sym (unmarked c.self.inside.marks.items c.self.inside.rows.map c.self.invariant c.args.id off) ∙ ap (λ s. map.get s.map c.args.id) c.self.view_is
