use Rattle.std.proofs.Common.{◌==◌, ◌&&◌, false, if◌then◌else◌, ap, sym, ◌∙◌}
use Rattle.gfx_table.specs.Groups.{is_member}
use Rattle.gfx_objects.specs.Children.{is_at}
use Rattle.gfx_objects.proofs.tables.take_from.Goals as goal

pub returns-in-Some-clause-members : goal.returns-in-Some-clause-members
returns-in-Some-clause-members c g x =
    ap (λ f. f g x) c.remove.ensures.members ∙ ap (λ o. if is_at g o && c.args.id == x then false else is_member c.args.groups.now.sets.map g x) (sym c.in-Some.is)

pub returns-in-Some-clause-left : goal.returns-in-Some-clause-left
returns-in-Some-clause-left c = c.remove.ensures.left

pub returns-in-Some-clause-others : goal.returns-in-Some-clause-others
returns-in-Some-clause-others c g apart = c.remove.ensures.others g (ap (is_at g) (sym c.in-Some.is) ∙ apart)
