use Rattle.std.proofs.Common.{ap, ◌∙◌}
use Rattle.gfx_table.specs.Slots.{least_above}
use Rattle.gfx_objects.specs.Objects.{of_owner}
use Rattle.gfx_objects.specs.Inside.{kept_of}
use Rattle.gfx_objects.proofs.Asked.{owned_answered}
use Rattle.gfx_objects.proofs.LeastOf.{next_is}
use Rattle.gfx_objects.proofs.objects.Objects.next_owned.Goals as goal

pub returns-clause-least : goal.returns-clause-least
returns-clause-least c =
    let k = kept_of c.self.inside in
    c.least_of.ensures
    ∙ next_is k c.args.owner c.args.after c.members.result.now
    (λ x. c.members.ensures.all x ∙ c.self.invariant.grouped.by_owner c.args.owner x ∙ owned_answered k c.args.owner x)
    ∙ ap (λ k. least_above (of_owner c.args.owner k.rows) c.args.after) c.self.view_is
