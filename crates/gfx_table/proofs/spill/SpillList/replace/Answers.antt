use Rattle.std.proofs.Common.{◌≤◌, ap, ◌∙◌, sym, arith}
use Rattle.std.specs.FinMap as map
use Rattle.gfx_table.specs.Slots.{map_of}
use Rattle.gfx_table.proofs.Places.{inserted, written, get_missing, get_found}
use Rattle.gfx_table.proofs.spill.SpillList.replace.Goals as goal

pub invariant_of-self-in-Err : goal.invariant_of-self-in-Err
invariant_of-self-in-Err g c =
    rw c.in_default.ensures.items (inserted c.self.inside.entries.items c.args.id c.in-Err.at c.args.row c.self.invariant (rw c.deref.ensures.value at c.in-Err.ensures.missing)).1

pub invariant_of-self : goal.invariant_of-self
invariant_of-self g c =
    rw c.replace-old.ensures.after (written c.self.inside.entries.items c.args.id c.in-Ok.at c.args.row c.self.invariant (rw c.deref.ensures.value at c.in-Ok.ensures.found)).1

pub returns-in-Ok-clause-value : goal.returns-in-Ok-clause-value
returns-in-Ok-clause-value g c =
    rw c.replace-old.ensures.value
    (get_found c.self.inside.entries.items c.args.id c.in-Ok.at c.index_mut.result.now c.self.invariant (rw c.deref.ensures.value at c.in-Ok.ensures.found) c.index_mut.ensures.value
    ∙ ap (λ s. map.get s.map c.args.id) c.self.view_is)

pub returns-in-Ok-clause-map : goal.returns-in-Ok-clause-map
returns-in-Ok-clause-map g c =
    rw c.replace-old.ensures.after
    ((written c.self.inside.entries.items c.args.id c.in-Ok.at c.args.row c.self.invariant (rw c.deref.ensures.value at c.in-Ok.ensures.found)).0
    ∙ ap (λ s. map.insert s.map c.args.id c.args.row) c.self.view_is)

pub returns-in_default-clause-value : goal.returns-in_default-clause-value
returns-in_default-clause-value g c = get_missing c.self.inside.entries.items c.args.id c.in-Err.at c.self.invariant (rw c.deref.ensures.value at c.in-Err.ensures.missing)
    ∙ ap (λ s. map.get s.map c.args.id) c.self.view_is

pub returns-in_default-clause-map : goal.returns-in_default-clause-map
returns-in_default-clause-map g c =
    ap map_of c.in_default.ensures.items
    ∙ (inserted c.self.inside.entries.items c.args.id c.in-Err.at c.args.row c.self.invariant (rw c.deref.ensures.value at c.in-Err.ensures.missing)).0
    ∙ ap (λ s. map.insert s.map c.args.id c.args.row) c.self.view_is

pub unreachable-requires : goal.unreachable-requires
unreachable-requires g c =
    let none = get_missing c.self.inside.entries.items c.args.id c.in-Err.at c.self.invariant (rw c.deref.ensures.value at c.in-Err.ensures.missing)
    ∙ ap (λ s. map.get s.map c.args.id) c.self.view_is in
    let spare : 1 ≤ c.args.self.now.spare = c.requires (sym none) in
    let is = ap (λ s. s.spare) c.self.view_is in
    omega (arith, c.in-Err-insert.ensures.full, is)
