use Rattle.std.proofs.Common.{◌==◌, ◌&&◌, ap, ◌∙◌}
use Rattle.gfx_model.specs.Questions.{is_owned, passes}
use Rattle.gfx_objects.specs.Objects.{answers}
use Rattle.gfx_objects.specs.Inside.{kept_of}
use Rattle.gfx_objects.proofs.Asked.{owned_answered}
use Rattle.gfx_objects.proofs.objects.Objects.owned.Goals as goal

pub returns-clause-all : goal.returns-clause-all
returns-clause-all c x =
    c.members.ensures.all x ∙ c.self.invariant.grouped.by_owner c.args.id x ∙ owned_answered (kept_of c.self.inside) c.args.id x
    ∙ ap (λ k. passes (λ o. is_owned o.detail && c.args.id == o.parent) ((answers k).live x)) c.self.view_is
