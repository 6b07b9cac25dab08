use Rattle.std.proofs.Common.{◌≡◌, Bool, true, false, Option, None, refl, sym, ◌∙◌, if◌then◌else◌}
use Rattle.gfx_model.specs.Questions.{Range}
use Rattle.gfx_objects.specs.Object.{is_memory, detail_of}
use Rattle.gfx_objects.proofs.Steps.{unmapped}
use Rattle.gfx_objects.proofs.objects.Objects.unmap.Goals as goal

no_map : (t : Bool) → ◌≡◌ {A = Option Range} (if t then None else None) None
no_map true = refl
no_map false = refl

pub returns-in-Some-clause-step : goal.returns-in-Some-clause-step
returns-in-Some-clause-step c =
    let k = c.args.self.now in
    let some = sym c.get.ensures.row ∙ sym c.in-Some.ensures in
    let e = c.mapped_to-detail.ensures in
    unmapped k c.set_detail.new.self c.args.memory c.in-Some.object c.mapped_to-detail.result c.set_detail.ensures.rows c.set_detail.ensures.ended some e.parameters
    (e.mapped ∙ no_map (is_memory (detail_of c.in-Some.object.detail))) e.bound e.layout
