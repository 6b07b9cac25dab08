use Rattle.std.proofs.Common.{is_some, ap, sym, ◌∙◌}
use Rattle.std.specs.FinMap as map
use Rattle.gfx_table.proofs.Slotting.{got_beside, got_there}
use Rattle.gfx_table.proofs.slotted.Slotted.get.Goals as goal

pub returns-in-Some : goal.returns-in-Some
returns-in-Some g c =
    let here = rw c.deref.ensures.value at c.in-Some.ensures.row in
    here ∙ got_there c.self.inside.mask c.self.inside.displaced c.self.inside.slots.items c.self.inside.rest.map c.self.invariant.0 c.own_of-own.result c.args.id (ap is_some (sym here))
    ∙ ap (λ s. map.get s.map c.args.id) c.self.view_is

pub returns-then-self-eq0 : goal.returns-then-self-eq0
returns-then-self-eq0 g c = c.get.ensures ∙ got_beside c.self.inside.slots.items c.self.inside.rest.map c.args.id (sym c.self.invariant.1 ∙ c.if-self-eq0.true) ∙ ap (λ s. map.get s.map c.args.id) c.self.view_is
