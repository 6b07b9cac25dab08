use Rattle.std.proofs.Common.{ap, ◌∙◌}
use Rattle.gfx_objects.specs.Objects.{answers}
use Rattle.gfx_objects.proofs.objects.Objects.ids.Goals as goal

pub returns : goal.returns
unfolding answers
returns c = c.in_ok-ids.ensures ∙ ap (λ k. (answers k).ids) c.self.view_is
