use Rattle.std.proofs.Common.{option_and_then, sym, ap, ◌∙◌}
use Rattle.std.specs.FinMap as map
use Rattle.slab.specs.Slab.{get}
use Rattle.gfx_table.specs.Stored.{stored}
use Rattle.gfx_table.proofs.Densing.{remove_missing}
use Rattle.gfx_table.proofs.Storing.{get-stored, take_row}
use Rattle.gfx_table.proofs.stored.Stored.remove.Goals as goal

pub invariant_of-self : goal.invariant_of-self
invariant_of-self g c = rw (c.remove.ensures.map, remove_missing c.self.inside.keys.map c.args.id (sym c.in_err-key.ensures.value)) c.self.invariant

pub returns-in_err-key-clause-value : goal.returns-in_err-key-clause-value
returns-in_err-key-clause-value g c =
    c.from_residual.ensures ∙ ap (option_and_then (get c.self.inside.rows)) c.in_err-key.ensures.value ∙ sym (get-stored c.self.inside.rows c.self.inside.keys.map c.args.id) ∙ ap (λ s. map.get s.map c.args.id) c.self.view_is

pub returns-in_err-key-clause-map : goal.returns-in_err-key-clause-map
returns-in_err-key-clause-map g c =
    let none = sym c.in_err-key.ensures.value in
    let missing = sym (ap (λ s. map.get s.map c.args.id) c.self.view_is) ∙ get-stored c.self.inside.rows c.self.inside.keys.map c.args.id ∙ ap (option_and_then (get c.self.inside.rows)) none in
    ap (stored c.self.inside.rows) (c.remove.ensures.map ∙ remove_missing c.self.inside.keys.map c.args.id none) ∙ ap (λ s. s.map) c.self.view_is ∙ sym (remove_missing c.args.self.now.map c.args.id missing)

pub invariant_of-self-2 : goal.invariant_of-self-2
invariant_of-self-2 g c =
    rw c.remove.ensures.map (take_row c.self.inside.rows c.try_remove.new.self c.self.inside.keys.map c.self.invariant c.args.id c.in_ok-key.key (sym c.in_ok-key.ensures.value) c.try_remove.ensures.updates).0

pub returns-clause-value : goal.returns-clause-value
returns-clause-value g c =
    c.try_remove.ensures.value ∙ ap (option_and_then (get c.self.inside.rows)) c.in_ok-key.ensures.value ∙ sym (get-stored c.self.inside.rows c.self.inside.keys.map c.args.id) ∙ ap (λ s. map.get s.map c.args.id) c.self.view_is

pub returns-clause-map : goal.returns-clause-map
returns-clause-map g c =
    ap (stored c.try_remove.new.self) c.remove.ensures.map
    ∙ (take_row c.self.inside.rows c.try_remove.new.self c.self.inside.keys.map c.self.invariant c.args.id c.in_ok-key.key (sym c.in_ok-key.ensures.value) c.try_remove.ensures.updates).1
    ∙ ap (λ s. map.remove s.map c.args.id) c.self.view_is
