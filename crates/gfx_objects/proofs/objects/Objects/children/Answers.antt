use Rattle.std.proofs.Common.{ap, ◌∙◌}
use Rattle.gfx_model.specs.Views.{children}
use Rattle.gfx_objects.specs.Objects.{answers}
use Rattle.gfx_objects.specs.Inside.{kept_of}
use Rattle.gfx_objects.proofs.Asked.{children_answered}
use Rattle.gfx_objects.proofs.objects.Objects.children.Goals as goal

pub returns : goal.returns
returns c =
    c.get.ensures ∙ c.self.invariant.indexed.by_parent c.args.id ∙ children_answered (kept_of c.self.inside) c.args.id
    ∙ ap (λ k. children (answers k) c.args.id) c.self.view_is
