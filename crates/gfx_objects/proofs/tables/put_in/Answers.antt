use Rattle.std.proofs.Common.{◌==◌, ◌&&◌, ◌||◌, ap, sym, ◌∙◌}
use Rattle.gfx_table.specs.Groups.{is_member}
use Rattle.gfx_objects.specs.Children.{is_at}
use Rattle.gfx_objects.proofs.tables.put_in.Goals as goal

pub returns-in-Some-clause-members : goal.returns-in-Some-clause-members
returns-in-Some-clause-members c g x =
    ap (λ f. f g x) c.insert.ensures.members ∙ ap (λ o. (is_at g o && c.args.id == x) || is_member c.args.groups.now.sets.map g x) (sym c.in-Some.is)
