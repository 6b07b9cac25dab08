use Rattle.std.proofs.Common.{Option, ap, ◌∙◌}
use Rattle.std.specs.Option.{option_map_or}
use Rattle.gfx_objects.specs.declared.object.Object.{Object}
use Rattle.gfx_objects.specs.Object.{layout_of}
use Rattle.gfx_objects.specs.Objects.{answers}
use Rattle.gfx_objects.proofs.objects.Objects.layout.Goals as goal

pub returns-in-Some : goal.returns-in-Some
unfolding answers
returns-in-Some c = c.layout.ensures ∙ ap (λ (q : Option Object). option_map_or (λ (o : Object). layout_of o.detail) q 0) c.in-Some.ensures.row

pub returns-in-None : goal.returns-in-None
unfolding answers
returns-in-None c = ap (λ (q : Option Object). option_map_or (λ (o : Object). layout_of o.detail) q 0) c.in-None.ensures.row
