use Rattle.std.proofs.Common.{slice_set, refl, ap, subst, ◌∙◌}
use Rattle.std.specs.FinMap as map
use Rattle.gfx_table.specs.Joined.{joined}
use Rattle.gfx_table.specs.Slotted.{IsInGroup, filled}
use Rattle.gfx_table.proofs.Counting.{count_clear}
use Rattle.gfx_table.proofs.Slotting.{got_there, got_rest, clear_slot, clear_rest}
use Rattle.gfx_table.proofs.slotted.Slotted.remove.Goals as goal

pub invariant_of-self : goal.invariant_of-self
invariant_of-self g c =
    let none = rw c.deref.ensures.value at (c.in_default.ensures.none refl) in
    (rw c.remove.ensures.map (clear_rest c.self.inside.mask c.self.inside.displaced c.self.inside.slots.items c.self.inside.rest.map c.first_of.result c.args.id c.self.invariant.0 c.first_of.ensures none).0, c.self.invariant.1)

pub returns-in_default-clause-value : goal.returns-in_default-clause-value
returns-in_default-clause-value g c =
    let none = rw c.deref.ensures.value at (c.in_default.ensures.none refl) in
    c.remove.ensures.value
    ∙ got_rest c.self.inside.mask c.self.inside.displaced c.self.inside.slots.items c.self.inside.rest.map c.self.invariant.0 c.first_of.result c.args.id c.first_of.ensures none
    ∙ ap (λ s. map.get s.map c.args.id) c.self.view_is

pub returns-in_default-clause-map : goal.returns-in_default-clause-map
returns-in_default-clause-map g c =
    let none = rw c.deref.ensures.value at (c.in_default.ensures.none refl) in
    ap (joined (filled c.self.inside.slots.items)) c.remove.ensures.map
    ∙ (clear_rest c.self.inside.mask c.self.inside.displaced c.self.inside.slots.items c.self.inside.rest.map c.first_of.result c.args.id c.self.invariant.0 c.first_of.ensures none).1
    ∙ ap (λ s. map.remove s.map c.args.id) c.self.view_is

pub invariant_of-self-2 : goal.invariant_of-self-2
invariant_of-self-2 g c =
    let here = rw c.deref.ensures.value at c.in-Some.ensures.here in
    let within = subst (λ first. IsInGroup first c.in-Some.slot) c.first_of.ensures c.in-Some.ensures.inside in (
      rw c.free.ensures (clear_slot c.self.inside.mask c.self.inside.displaced c.self.inside.slots.items c.self.inside.rest.map c.in-Some.slot c.args.id c.self.invariant.0 here within).0,
      count_clear c.self.inside.slots.items c.in-Some.slot c.args.id c.self.inside.taken c.saturating_sub-self-inside.result c.free.result here c.free.ensures c.saturating_sub-self-inside.ensures c.self.invariant.1,
    )

pub returns-clause-value : goal.returns-clause-value
returns-clause-value g c =
    let here = rw c.deref.ensures.value at c.in-Some.ensures.here in
    c.copied-row.ensures ∙ (rw c.deref-2.ensures.value at c.in_slot.ensures.row)
    ∙ got_there c.self.inside.mask c.self.inside.displaced c.self.inside.slots.items c.self.inside.rest.map c.self.invariant.0 c.in-Some.slot c.args.id here
    ∙ ap (λ s. map.get s.map c.args.id) c.self.view_is

pub returns-clause-map : goal.returns-clause-map
returns-clause-map g c =
    let here = rw c.deref.ensures.value at c.in-Some.ensures.here in
    let within = subst (λ first. IsInGroup first c.in-Some.slot) c.first_of.ensures c.in-Some.ensures.inside in
    ap (λ o. joined (filled (slice_set c.self.inside.slots.items c.in-Some.slot o)) c.self.inside.rest.map) c.free.ensures
    ∙ (clear_slot c.self.inside.mask c.self.inside.displaced c.self.inside.slots.items c.self.inside.rest.map c.in-Some.slot c.args.id c.self.invariant.0 here within).1
    ∙ ap (λ s. map.remove s.map c.args.id) c.self.view_is
