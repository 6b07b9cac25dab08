use Rattle.std.proofs.Common.{take}
use Rattle.gfx_types.specs.declared.names.Kind.TheVariants as kind
use Rattle.gfx_model.specs.Views.{is_live}
use Rattle.gfx_objects.specs.Objects.{answers}
use Rattle.gfx_replay.specs.Places.{bytes_in}
use Rattle.gfx_replay.proofs.Dropping.{AreDropped}
use Rattle.gfx_replay.proofs.updates.drop_ended_images.Given as goal

abbrev pub invariant-images : goal.invariant-images
invariant-images l = AreDropped (bytes_in l.initial.places) (bytes_in l.places) (is_live (answers l.objects) kind.Image) (take l.image-index l.images)
