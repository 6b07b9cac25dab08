use Rattle.std.proofs.Common.{ap, ◌∙◌}
use Rattle.std.specs.FinMap as map
use Rattle.gfx_table.specs.Slots.{map_of}
use Rattle.gfx_table.proofs.Places.{removed, remove_missing, get_missing, get_found}
use Rattle.gfx_table.proofs.spill.SpillList.remove.Goals as goal

pub invariant_of-self : goal.invariant_of-self
invariant_of-self g c =
    rw c.remove.ensures.items (removed c.self.inside.entries.items c.args.id c.in-Ok.at c.self.invariant (rw c.deref.ensures.value at c.in-Ok.ensures.found)).1

pub returns-in-Ok-clause-value : goal.returns-in-Ok-clause-value
returns-in-Ok-clause-value g c =
    get_found c.self.inside.entries.items c.args.id c.in-Ok.at c.remove.result c.self.invariant (rw c.deref.ensures.value at c.in-Ok.ensures.found) c.remove.ensures.value
    ∙ ap (λ s. map.get s.map c.args.id) c.self.view_is

pub returns-in-Ok-clause-map : goal.returns-in-Ok-clause-map
returns-in-Ok-clause-map g c =
    ap map_of c.remove.ensures.items
    ∙ (removed c.self.inside.entries.items c.args.id c.in-Ok.at c.self.invariant (rw c.deref.ensures.value at c.in-Ok.ensures.found)).0
    ∙ ap (λ s. map.remove s.map c.args.id) c.self.view_is

pub returns-in-Err-clause-value : goal.returns-in-Err-clause-value
returns-in-Err-clause-value g c =
    get_missing c.self.inside.entries.items c.args.id c.in-Err.field-0 c.self.invariant (rw c.deref.ensures.value at c.in-Err.ensures.missing)
    ∙ ap (λ s. map.get s.map c.args.id) c.self.view_is

pub returns-in-Err-clause-map : goal.returns-in-Err-clause-map
returns-in-Err-clause-map g c =
    remove_missing c.args.self.now.map c.args.id
    (get_missing c.self.inside.entries.items c.args.id c.in-Err.field-0 c.self.invariant (rw c.deref.ensures.value at c.in-Err.ensures.missing)
    ∙ ap (λ s. map.get s.map c.args.id) c.self.view_is)
