use Rattle.std.proofs.Common.{ap, ◌∙◌}
use Rattle.std.specs.FinMap as map
use Rattle.gfx_table.proofs.Joining.{got}
use Rattle.gfx_table.proofs.ordered.Table.get.Goals as goal

pub returns-in-Some : goal.returns-in-Some
returns-in-Some g c =
    got c.self.inside.rows.entries c.self.inside.spilled.map c.args.id _ c.in-Some.ensures.value
    ∙ ap (λ s. map.get s.map c.args.id) c.self.view_is

pub returns-in-None : goal.returns-in-None
returns-in-None g c =
    c.get-in-None.ensures
    ∙ got c.self.inside.rows.entries c.self.inside.spilled.map c.args.id _ c.in-None.ensures.value
    ∙ ap (λ s. map.get s.map c.args.id) c.self.view_is
