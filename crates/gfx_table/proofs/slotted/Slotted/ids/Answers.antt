use Rattle.std.proofs.Common.{ap, ◌++◌, ◌∙◌}
use Rattle.std.specs.FinMap as map
use Rattle.gfx_table.proofs.Slotting.{slotted_ids}
use Rattle.gfx_table.proofs.slotted.Slotted.ids.Goals as goal

pub returns : goal.returns
returns g c =
    let slots = c.self.inside.slots.items in
    let rest = c.self.inside.rest.map in
    let taken = rw (c.new-ids.ensures.items, c.deref.ensures.value) at c.in_ok-push_taken.ensures in
    slotted_ids c.self.inside.mask c.self.inside.displaced slots rest c.self.invariant.0 c.push_ids.new.ids.items c.sort_unstable.new.self.items (c.in_ok-push_ids.ensures ∙ ap (λ l. l ++ map.keys rest) taken)
    c.sort_unstable.ensures.permutation c.sort_unstable.ensures.sorted
    ∙ ap (λ s. map.keys s.map) c.self.view_is
