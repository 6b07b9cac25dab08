use Rattle.std.proofs.Common.{ap, sym, ◌∙◌}
use Rattle.std.specs.FinMap as map
use Rattle.gfx_table.specs.Joined.{joined}
use Rattle.gfx_table.proofs.Joining.{got, remove_in_tree, remove_in_list, apart_remove_tree, apart_remove_list, missing_in_list}
use Rattle.gfx_table.proofs.ordered.Table.remove.Goals as goal

pub invariant_of-self : goal.invariant_of-self
invariant_of-self g c =
    apart_remove_tree c.self.inside.rows.entries c.remove.new.self.entries c.self.inside.spilled.map c.args.id c.self.invariant c.remove.ensures.updates.0

pub invariant_of-self-in-None : goal.invariant_of-self-in-None
invariant_of-self-in-None g c =
    rw c.remove-in-None.ensures.map
    (apart_remove_list c.self.inside.rows.entries c.remove.new.self.entries c.self.inside.spilled.map c.args.id c.self.invariant c.in-None.ensures.unchanged)

pub returns-in-Some-clause-value : goal.returns-in-Some-clause-value
returns-in-Some-clause-value g c =
    got c.self.inside.rows.entries c.self.inside.spilled.map c.args.id _ c.in-Some.ensures.value
    ∙ ap (λ s. map.get s.map c.args.id) c.self.view_is

pub returns-in-Some-clause-map : goal.returns-in-Some-clause-map
returns-in-Some-clause-map g c =
    let es = c.self.inside.rows.entries in
    let m = c.self.inside.spilled.map in
    let none = missing_in_list es m c.args.id c.in-Some.row c.self.invariant (sym c.in-Some.ensures.value) in
    remove_in_tree es c.remove.new.self.entries m c.args.id c.remove.ensures.updates.0 none
    ∙ ap (λ s. map.remove s.map c.args.id) c.self.view_is

pub returns-in-None-clause-value : goal.returns-in-None-clause-value
returns-in-None-clause-value g c =
    c.remove-in-None.ensures.value
    ∙ got c.self.inside.rows.entries c.self.inside.spilled.map c.args.id _ c.in-None.ensures.value
    ∙ ap (λ s. map.get s.map c.args.id) c.self.view_is

pub returns-in-None-clause-map : goal.returns-in-None-clause-map
returns-in-None-clause-map g c =
    ap (joined c.remove.new.self.entries) c.remove-in-None.ensures.map
    ∙ remove_in_list c.self.inside.rows.entries c.remove.new.self.entries c.self.inside.spilled.map c.args.id c.in-None.ensures.unchanged (sym c.in-None.ensures.value)
    ∙ ap (λ s. map.remove s.map c.args.id) c.self.view_is
