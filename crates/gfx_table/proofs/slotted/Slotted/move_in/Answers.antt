use Rattle.std.proofs.Common.{◌≡◌, slice_set, Some, ap, sym, ◌∙◌}
use Rattle.std.specs.FinMap as map
use Rattle.gfx_table.specs.Joined.{joined}
use Rattle.gfx_table.specs.Rows.{remove_none}
use Rattle.gfx_table.specs.Slotted.{filled, IsSlotted}
use Rattle.gfx_table.proofs.Slotting.{moved}
use Rattle.gfx_table.proofs.slotted.Slotted.move_in.Given.{Over}
use Rattle.gfx_table.proofs.slotted.Slotted.move_in.Goals as goal

-- the row is in its slot, and the rows are those that were there
moved_there : (g : Over) (c : goal.After-self-1 g) → let s = c.self.inside in let new = slice_set s.slots.items c.in-Some.slot (Some (c.args.id, c.in-Some-remove.row)) in let rest = map.remove s.rest.map c.args.id in
    IsSlotted s.mask c.displaces-self-inside.result new rest × (joined (filled new) rest ≡ joined (filled s.slots.items) s.rest.map)
moved_there g c =
    let s = c.self.inside in
    moved s.mask s.displaced c.displaces-self-inside.result s.slots.items s.rest.map c.first_of-first.result c.in-Some.slot c.args.id c.in-Some-remove.row c.self.invariant.0 c.first_of-first.ensures
    (sym c.in-Some-remove.ensures.value) c.in-Some.ensures.group (rw c.deref.ensures.value at c.in-Some.ensures.inside) (rw c.deref.ensures.value at c.in-Some.ensures.free) c.displaces-self-inside.ensures

pub invariant_of-self : goal.invariant_of-self
invariant_of-self g c =
    (rw c.put.ensures.slots (rw c.in-Some-remove.ensures.map (moved_there g c).0), c.put.ensures.taken c.self.invariant.1)

pub invariant_of-self-in_default-remove : goal.invariant_of-self-in_default-remove
invariant_of-self-in_default-remove g c =
    let s = c.self.inside in
    (rw (c.in_default-remove.ensures.map ∙ remove_none s.rest.map c.args.id (sym c.in_default-remove.ensures.value)) c.self.invariant.0, c.self.invariant.1)

pub returns-in-Some-remove-clause-map : goal.returns-in-Some-remove-clause-map
returns-in-Some-remove-clause-map g c =
    let s = c.self.inside in
    ap (λ slots. joined (filled slots) c.remove.new.self.map) c.put.ensures.slots ∙ ap (joined (filled (slice_set s.slots.items c.in-Some.slot (Some (c.args.id, c.in-Some-remove.row))))) c.in-Some-remove.ensures.map ∙ (moved_there g c).1 ∙ ap (λ s. s.map) c.self.view_is

pub returns-in_default-remove-clause-map : goal.returns-in_default-remove-clause-map
returns-in_default-remove-clause-map g c =
    let s = c.self.inside in
    ap (joined (filled s.slots.items)) (c.in_default-remove.ensures.map ∙ remove_none s.rest.map c.args.id (sym c.in_default-remove.ensures.value)) ∙ ap (λ s. s.map) c.self.view_is
