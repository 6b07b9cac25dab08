use Rattle.std.proofs.Common.{ap, ◌∙◌}
use Rattle.std.specs.FinMap as map
use Rattle.gfx_table.specs.Stored.{stored}
use Rattle.gfx_table.proofs.Storing.{no_key, put_row}
use Rattle.gfx_table.proofs.stored.Stored.insert.Goals as goal

pub insert-requires-clause-new : goal.insert-requires-clause-new
insert-requires-clause-new g c = no_key c.self.inside.rows c.self.inside.keys.map c.self.invariant c.args.id (ap (λ s. map.get s.map c.args.id) c.self.view_is ∙ c.requires.new)

pub invariant_of-self : goal.invariant_of-self
invariant_of-self g c =
    let rows = c.self.inside.rows in
    let keys = c.self.inside.keys.map in
    let none = no_key rows keys c.self.invariant c.args.id (ap (λ s. map.get s.map c.args.id) c.self.view_is ∙ c.requires.new) in
    rw c.insert.ensures.map (put_row rows c.insert_reserved-key.new.self keys c.self.invariant c.args.id c.insert_reserved-key.result c.args.row none c.insert_reserved-key.ensures.was_vacant c.insert_reserved-key.ensures.updates).0

pub returns-clause-map : goal.returns-clause-map
returns-clause-map g c =
    let rows = c.self.inside.rows in
    let keys = c.self.inside.keys.map in
    let none = no_key rows keys c.self.invariant c.args.id (ap (λ s. map.get s.map c.args.id) c.self.view_is ∙ c.requires.new) in
    ap (stored c.insert_reserved-key.new.self) c.insert.ensures.map
    ∙ (put_row rows c.insert_reserved-key.new.self keys c.self.invariant c.args.id c.insert_reserved-key.result c.args.row none c.insert_reserved-key.ensures.was_vacant c.insert_reserved-key.ensures.updates).1
    ∙ ap (λ s. map.insert s.map c.args.id c.args.row) c.self.view_is
