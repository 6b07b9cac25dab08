use Rattle.std.proofs.Common.{ap, ◌∙◌}
use Rattle.gfx_model.specs.Views.{object_count}
use Rattle.gfx_objects.specs.Objects.{answers}
use Rattle.gfx_objects.specs.Inside.{kept_of}
use Rattle.gfx_objects.proofs.Asked.{count_answered}
use Rattle.gfx_objects.proofs.objects.Objects.live.Goals as goal

pub returns-clause-count : goal.returns-clause-count
returns-clause-count c = c.self.invariant.indexed.in_number ∙ count_answered (kept_of c.self.inside) ∙ ap (λ k. object_count (answers k)) c.self.view_is
