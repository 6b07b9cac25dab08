use Rattle.std.proofs.Common.{◌≤◌, Some, None, refl, ap, sym, ◌∙◌, arith}
use Rattle.std.specs.FinMap as map
use Rattle.gfx_table.specs.Joined.{joined}
use Rattle.gfx_table.proofs.Joining.{got, got_in_tree, none_where_missing, missing_in_tree, insert_in_tree, insert_in_list, apart_insert_tree, apart_insert_list}
use Rattle.gfx_table.proofs.ordered.Table.replace.Goals as goal

pub invariant_of-self : goal.invariant_of-self
invariant_of-self g c =
    let es = c.self.inside.rows.entries in
    let m = c.self.inside.spilled.map in
    let none = missing_in_tree es m c.args.id c.self.invariant (sym c.contains.ensures ∙ c.if-contains.true) in
    rw c.replace.ensures.map (apart_insert_list es es m c.args.id c.args.row c.self.invariant refl none)

pub returns-then-contains-clause-value : goal.returns-then-contains-clause-value
returns-then-contains-clause-value g c =
    let es = c.self.inside.rows.entries in
    let m = c.self.inside.spilled.map in
    let none = missing_in_tree es m c.args.id c.self.invariant (sym c.contains.ensures ∙ c.if-contains.true) in
    c.replace.ensures.value ∙ got es m c.args.id None (sym none) ∙ ap (λ s. map.get s.map c.args.id) c.self.view_is

pub returns-then-contains-clause-map : goal.returns-then-contains-clause-map
returns-then-contains-clause-map g c =
    let es = c.self.inside.rows.entries in
    let m = c.self.inside.spilled.map in
    let none = missing_in_tree es m c.args.id c.self.invariant (sym c.contains.ensures ∙ c.if-contains.true) in
    ap (joined es) c.replace.ensures.map ∙ insert_in_list es es m c.args.id c.args.row refl none ∙ ap (λ s. map.insert s.map c.args.id c.args.row) c.self.view_is

pub invariant_of-self-in-Ok : goal.invariant_of-self-in-Ok
invariant_of-self-in-Ok g c =
    let m = c.self.inside.spilled.map in
    let none = none_where_missing m c.args.id (sym c.contains.ensures ∙ c.if-contains.false) in
    apart_insert_tree c.self.inside.rows.entries c.insert.new.self.entries m c.args.id (Some c.args.row) c.self.invariant c.in-Ok.ensures.updates.0 none

pub replace-requires-in-Err : goal.replace-requires-in-Err
replace-requires-in-Err g c h =
    let es = c.self.inside.rows.entries in
    let m = c.self.inside.spilled.map in
    let gone = sym (ap (λ s. map.get s.map c.args.id) c.self.view_is) ∙ sym (got es m c.args.id None (sym c.in-Err.ensures.absent)) ∙ h in
    let spare : 1 ≤ c.args.self.now.spare = c.requires gone in
    let is = ap (λ s. s.spare) c.self.view_is in
    omega (arith, spare, is)

pub invariant_of-self-in-Err : goal.invariant_of-self-in-Err
invariant_of-self-in-Err g c =
    rw c.replace-in-Err.ensures.map
    (apart_insert_list c.self.inside.rows.entries c.insert.new.self.entries c.self.inside.spilled.map c.args.id _ c.self.invariant c.in-Err.ensures.err c.in-Err.ensures.absent)

pub returns-in-Ok-clause-value : goal.returns-in-Ok-clause-value
returns-in-Ok-clause-value g c =
    let m = c.self.inside.spilled.map in
    let none = none_where_missing m c.args.id (sym c.contains.ensures ∙ c.if-contains.false) in
    got_in_tree c.self.inside.rows.entries m c.args.id c.in-Ok.old c.in-Ok.ensures.old none ∙ ap (λ s. map.get s.map c.args.id) c.self.view_is

pub returns-in-Ok-clause-map : goal.returns-in-Ok-clause-map
returns-in-Ok-clause-map g c =
    insert_in_tree c.self.inside.rows.entries c.insert.new.self.entries c.self.inside.spilled.map c.args.id c.args.row c.in-Ok.ensures.updates.0
    ∙ ap (λ s. map.insert s.map c.args.id c.args.row) c.self.view_is

pub returns-in-Err-clause-value : goal.returns-in-Err-clause-value
returns-in-Err-clause-value g c =
    c.replace-in-Err.ensures.value ∙ got c.self.inside.rows.entries c.self.inside.spilled.map c.args.id None (sym c.in-Err.ensures.absent)
    ∙ ap (λ s. map.get s.map c.args.id) c.self.view_is

pub returns-in-Err-clause-map : goal.returns-in-Err-clause-map
returns-in-Err-clause-map g c =
    let es = c.self.inside.rows.entries in
    let m = c.self.inside.spilled.map in
    ap (joined c.insert.new.self.entries) c.replace-in-Err.ensures.map
    ∙ ap (λ (p : _ × _). joined c.insert.new.self.entries (map.insert m c.args.id p.1)) c.in-Err.ensures.value_returned
    ∙ insert_in_list es c.insert.new.self.entries m c.args.id c.args.row c.in-Err.ensures.err c.in-Err.ensures.absent
    ∙ ap (λ s. map.insert s.map c.args.id c.args.row) c.self.view_is
