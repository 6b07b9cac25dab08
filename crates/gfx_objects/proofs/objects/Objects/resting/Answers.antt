use Rattle.std.proofs.Common.{ap, ◌∙◌}
use Rattle.gfx_model.specs.Questions.{rests_on}
use Rattle.gfx_objects.specs.Objects.{answers}
use Rattle.gfx_objects.specs.Inside.{kept_of}
use Rattle.gfx_objects.proofs.Asked.{resting_answered}
use Rattle.gfx_objects.proofs.objects.Objects.resting.Goals as goal

pub returns-clause-all : goal.returns-clause-all
returns-clause-all c x =
    c.members.ensures.all x ∙ c.self.invariant.grouped.by_memory c.args.memory x ∙ resting_answered (kept_of c.self.inside) c.args.memory x
    ∙ ap (λ k. rests_on c.args.memory ((answers k).bound x)) c.self.view_is
