use Rattle.std.proofs.Common.{ap, ◌∙◌}
use Rattle.std.specs.Prelude.{option_map}
use Rattle.gfx_objects.specs.Object.{made}
use Rattle.gfx_objects.specs.Objects.{answers}
use Rattle.gfx_objects.proofs.objects.Objects.get.Goals as goal

pub returns-clause-live : goal.returns-clause-live
unfolding answers
returns-clause-live c = ap (option_map made) c.get.ensures ∙ ap (λ k. (answers k).live c.args.id) c.self.view_is
