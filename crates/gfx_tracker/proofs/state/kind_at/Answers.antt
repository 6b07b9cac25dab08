use Rattle.std.proofs.Common.{◌==◌, ap, sym, ◌∙◌}
use Rattle.std.proofs.lemmas.Bool.{eq-eqb}
use Rattle.gfx_model.specs.Steps.{kind_of, kind_number}
use Rattle.gfx_model.specs.Questions.{passes}
use Rattle.gfx_objects.specs.Object.{detail_of}
use Rattle.gfx_tracker.proofs.state.kind_at.Goals as goal

pub returns : goal.returns
returns c =
    let o = c.in-Some.object.now in
    ap (passes (λ m. kind_number (kind_of m.detail) == kind_number o.kind)) (sym c.in-Some.ensures.live)
    ∙ eq-eqb (kind_number (kind_of (detail_of o.detail))) (kind_number o.kind) (ap kind_number (sym c.in-Some.ensures.sound.same_kind))
