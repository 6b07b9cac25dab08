use Rattle.std.proofs.Common.{sym, ap, ◌∙◌, Some, None, if◌then◌else◌}
use Rattle.gfx_objects.proofs.Resources.{memory_live}
use Rattle.gfx_objects.proofs.Steps.{mapped}
use Rattle.gfx_objects.proofs.objects.Objects.map.Goals as goal

pub returns-in-Some-clause-step : goal.returns-in-Some-clause-step
returns-in-Some-clause-step c =
    let k = c.args.self.now in
    let some = sym c.get.ensures.row ∙ sym c.in-Some.ensures in
    let e = c.mapped_to-detail.ensures in
    mapped k c.set_detail.new.self c.args.memory c.in-Some.object c.mapped_to-detail.result c.set_detail.ensures.rows c.set_detail.ensures.ended some e.parameters
    c.args.offset c.args.length (e.mapped ∙ ap (λ t. if t then Some (record { offset = c.args.offset; length = c.args.length }) else None) (memory_live k c.args.memory c.in-Some.object some c.requires))
    e.bound e.layout
