use Rattle.std.proofs.Common.{Option, is_some, ap, ◌∙◌}
use Rattle.std.specs.Prelude.{option_and_then}
use Rattle.gfx_objects.specs.declared.object.Object.{Object}
use Rattle.gfx_objects.specs.Object.{bound_of}
use Rattle.gfx_objects.specs.Objects.{answers}
use Rattle.gfx_objects.proofs.objects.Objects.is_bound.Goals as goal

pub returns-in-Some : goal.returns-in-Some
unfolding answers
returns-in-Some c = c.is_bound.ensures ∙ ap (λ (q : Option Object). is_some (option_and_then (λ (o : Object). bound_of o.detail) q)) c.in-Some.ensures.row

pub returns-in-None : goal.returns-in-None
unfolding answers
returns-in-None c = ap (λ (q : Option Object). is_some (option_and_then (λ (o : Object). bound_of o.detail) q)) c.in-None.ensures.row
