use Rattle.std.proofs.Common.{ap, ◌∙◌}
use Rattle.gfx_table.proofs.Spreading.{same_slotted}
use Rattle.gfx_table.proofs.slotted.Slotted.widen.Goals as goal

pub returns-in-Some : goal.returns-in-Some
returns-in-Some g c =
    let made = c.in-Some.ensures in
    let same = same_slotted c.self.inside.mask c.mask_over-mask.result c.self.inside.displaced c.in-Some.displaced c.self.inside.slots.items c.spread.new.wide.items c.self.inside.rest.map c.self.invariant.0
    made.placed made.own (rw c.deref.ensures.value at made.same) in
    ap (λ m. record { map = m; spare = c.self.inside.rest.spare }) same.1 ∙ c.self.view_is
