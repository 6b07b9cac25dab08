use Rattle.std.proofs.Common.{IsSome, subst, option_and_then, sym, ap, ◌∙◌, arith}
use Rattle.std.specs.FinMap as map
use Rattle.slab.specs.Slab.{get, with_value}
use Rattle.slab.proofs.SlabLemmas.{Updates-with_value}
use Rattle.gfx_table.proofs.Storing.{get-stored, write_row}
use Rattle.gfx_table.proofs.stored.Stored.set.Goals as goal

pub returns-in-Some-clause-map : goal.returns-in-Some-clause-map
returns-in-Some-clause-map g c =
    let rows = c.self.inside.rows in
    let keys = c.self.inside.keys.map in
    let at = sym (c.in-Some.ensures ∙ c.get.ensures) in
    (write_row rows (with_value rows c.in-Some.key c.args.row) keys c.self.invariant c.args.id c.in-Some.key c.args.row at (Updates-with_value rows c.in-Some.key c.args.row (c.self.invariant.there c.args.id c.in-Some.key at))).1
    ∙ ap (λ s. map.insert s.map c.args.id c.args.row) c.self.view_is

pub returns-in_default-clause-map : goal.returns-in_default-clause-map
returns-in_default-clause-map g c =
    let missing = sym (ap (λ s. map.get s.map c.args.id) c.self.view_is) ∙ get-stored c.self.inside.rows c.self.inside.keys.map c.args.id ∙ ap (option_and_then (get c.self.inside.rows)) (sym (c.in_default.ensures ∙ c.get.ensures)) in
    let bad = subst IsSome missing c.requires in
    grind (arith, bad)
