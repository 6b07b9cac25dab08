use Rattle.std.proofs.Common.{sym, ◌∙◌}
use Rattle.gfx_objects.proofs.Resources.{image_live}
use Rattle.gfx_objects.proofs.Steps.{laid_out, laid_so}
use Rattle.gfx_objects.proofs.objects.Objects.set_layout.Goals as goal

pub returns-then-layout-clause-step : goal.returns-then-layout-clause-step
returns-then-layout-clause-step c =
    let k = c.args.self.now in
    let some = sym c.get.ensures.row ∙ sym c.in-Some.ensures in
    let e = c.with_layout-detail.ensures in
    laid_out k c.set_detail.new.self c.args.image c.in-Some.object c.with_layout-detail.result c.set_detail.ensures.rows c.set_detail.ensures.ended some e.parameters
    c.args.layout (e.layout (image_live k c.args.image c.in-Some.object some c.requires)) e.bound e.mapped

pub returns-else-layout-clause-step : goal.returns-else-layout-clause-step
returns-else-layout-clause-step c =
    laid_so c.args.self.now c.args.image c.in-Some.object c.args.layout (sym c.get.ensures.row ∙ sym c.in-Some.ensures) (sym c.layout.ensures ∙ c.if-layout.false)
