use Rattle.std.proofs.Common.{ap, ◌∙◌}
use Rattle.std.specs.Prelude.{option_and_then}
use Rattle.gfx_objects.specs.declared.object.Object.{Object}
use Rattle.gfx_objects.specs.Object.{mapped_of}
use Rattle.gfx_objects.specs.Objects.{answers}
use Rattle.gfx_objects.proofs.objects.Objects.mapped.Goals as goal

pub returns-in-Some : goal.returns-in-Some
unfolding answers
returns-in-Some c = c.mapped.ensures ∙ ap (option_and_then (λ (o : Object). mapped_of o.detail)) c.in-Some.ensures.row

pub returns-in-None : goal.returns-in-None
unfolding answers
returns-in-None c = ap (option_and_then (λ (o : Object). mapped_of o.detail)) c.in-None.ensures.row
