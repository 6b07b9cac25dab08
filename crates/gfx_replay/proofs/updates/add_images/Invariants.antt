use Rattle.std.proofs.Common.{take}
use Rattle.gfx_objects.specs.Objects.{answers}
use Rattle.gfx_replay.specs.Maps.{IsGiven}
use Rattle.gfx_replay.specs.Places.{bytes_in}
use Rattle.gfx_replay.specs.Updates.{zeros_of}
use Rattle.gfx_replay.proofs.updates.add_images.Given as goal

abbrev pub invariant-loop-image : goal.invariant-loop-image
invariant-loop-image l = IsGiven (bytes_in l.initial.places) (bytes_in l.places) (take l.image-index l.images) (zeros_of (answers l.objects))
