use Rattle.std.proofs.Common.{sym, refl}
use Rattle.gfx_objects.proofs.Resources.{bound_at}
use Rattle.gfx_objects.proofs.objects.Objects.resource.Goals as goal

pub is_usable-requires : goal.is_usable-requires
is_usable-requires c = bound_at c.args.self.now c.args.id c.in_ok-object.object.now (sym c.in_ok-object.ensures.row) c.in_ok-object.object.now.detail refl
