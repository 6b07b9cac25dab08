use Rattle.std.proofs.Common.{ap, ◌∙◌}
use Rattle.gfx_model.specs.Section.{object_events}
use Rattle.gfx_model.specs.Steps.Detail.{an_image}
use Rattle.gfx_objects.specs.Object.{detail_of}
use Rattle.gfx_state.specs.Parts.{answers_in}
use Rattle.gfx_state.proofs.Writing.{wrote_none}
use Rattle.gfx_state.proofs.object.write_own_image.Goals as goal

pub returns-in-Some-clause-written : goal.returns-in-Some-clause-written
returns-in-Some-clause-written g c = λ es.
    wrote_none (ap (λ d. object_events (record { answers = answers_in c.args.parts.now; es = es }) c.args.id c.args.object.parent (detail_of d)) c.in-Image.is
    ∙ ap (λ i. object_events (record { answers = answers_in c.args.parts.now; es = es }) c.args.id c.args.object.parent (an_image c.in-Image.format c.in-Image.width c.in-Image.height c.in-Image.usage i)) c.in-Some.is)
