use Rattle.std.proofs.Common.{rules}
use Rattle.gfx_objects.specs.Children.{count_of}
use Rattle.gfx_objects.proofs.children.ChildCounts.get.Goals as goal

pub returns : goal.returns
unfolding count_of
returns c = search rules
