use Rattle.std.proofs.Common.{ap, ◌∙◌}
use Rattle.std.specs.FinMap as map
use Rattle.gfx_table.proofs.Places.{get_found, get_missing}
use Rattle.gfx_table.proofs.spill.SpillList.get.Goals as goal

pub returns-in-Ok : goal.returns-in-Ok
returns-in-Ok g c =
    get_found c.self.inside.entries.items c.args.id c.in-Ok.at c.index.result.now c.self.invariant (rw c.deref.ensures.value at c.in-Ok.ensures.found) c.index.ensures
    ∙ ap (λ s. map.get s.map c.args.id) c.self.view_is

pub returns-in-Err : goal.returns-in-Err
returns-in-Err g c =
    get_missing c.self.inside.entries.items c.args.id c.in-Err.field-0 c.self.invariant (rw c.deref.ensures.value at c.in-Err.ensures.missing)
    ∙ ap (λ s. map.get s.map c.args.id) c.self.view_is
