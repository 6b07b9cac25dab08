use Rattle.std.proofs.Common.{refl, ap, ◌∙◌}
use Rattle.std.specs.FinMap as map
use Rattle.gfx_table.proofs.Slotting.{got_there, got_rest}
use Rattle.gfx_table.proofs.slotted.Slotted.get_anywhere.Goals as goal

pub returns-in-Some : goal.returns-in-Some
returns-in-Some g c =
    let here = rw c.deref.ensures.value at c.in-Some.ensures.here in
    (rw c.deref-in-Some.ensures.value at c.in_slot.ensures.row) ∙ got_there c.self.inside.mask c.self.inside.displaced c.self.inside.slots.items c.self.inside.rest.map c.self.invariant.0 c.in-Some.slot c.args.id here
    ∙ ap (λ s. map.get s.map c.args.id) c.self.view_is

pub returns-in-None : goal.returns-in-None
returns-in-None g c =
    let none = rw c.deref.ensures.value at (c.in-None.ensures.none refl) in
    c.get.ensures
    ∙ got_rest c.self.inside.mask c.self.inside.displaced c.self.inside.slots.items c.self.inside.rest.map c.self.invariant.0 c.first_of.result c.args.id c.first_of.ensures none
    ∙ ap (λ s. map.get s.map c.args.id) c.self.view_is
