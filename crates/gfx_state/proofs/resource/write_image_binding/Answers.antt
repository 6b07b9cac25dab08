use Rattle.std.proofs.Common.{sym}
use Rattle.gfx_model.specs.Events.Event.{BindImageMemory}
use Rattle.gfx_objects.specs.Objects.{answers}
use Rattle.gfx_state.proofs.Writing.{wrote_as, wrote_none}
use Rattle.gfx_state.proofs.Resources.{bound_nowhere, bound_there}
use Rattle.gfx_state.proofs.resource.write_image_binding.Goals as goal

pub returns-in-Some : goal.returns-in-Some
returns-in-Some g c = wrote_as (sym (bound_there (answers c.args.objects.now) (BindImageMemory c.args.device c.args.image) c.args.image _ (sym c.in-Some.ensures))) c.write_effect.ensures

pub returns-in-None : goal.returns-in-None
returns-in-None g c = wrote_none (bound_nowhere (answers c.args.objects.now) (BindImageMemory c.args.device c.args.image) c.args.image (sym c.in-None.ensures))
