use Rattle.std.proofs.Common.{ap, ◌∙◌}
use Rattle.gfx_table.specs.Slots.{least_above}
use Rattle.gfx_table.specs.Least.{lesser_of, least_in}
use Rattle.gfx_table.proofs.Leasts.{least-joined}
use Rattle.gfx_table.proofs.ordered.Table.next_above.Goals as goal

pub returns : goal.returns
returns g c =
    c.lesser_of.ensures ∙ ap (λ o. lesser_of o c.next_above.result) c.next_in_tree.ensures
    ∙ ap (lesser_of (least_in c.args.after c.self.inside.rows.entries)) c.next_above.ensures
    ∙ least-joined c.self.inside.rows.entries c.self.inside.spilled.map c.args.after
    ∙ ap (λ s. least_above s.map c.args.after) c.self.view_is
