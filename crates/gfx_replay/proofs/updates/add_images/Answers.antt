use Rattle.std.proofs.Common.{subst}
use Rattle.std.proofs.lemmas.List.{take_all}
use Rattle.gfx_objects.specs.Objects.{answers}
use Rattle.gfx_replay.specs.Maps.{IsGiven}
use Rattle.gfx_replay.specs.Places.{bytes_in}
use Rattle.gfx_replay.specs.Updates.{zeros_of}
use Rattle.gfx_replay.proofs.updates.add_images.Goals as goal

pub returns : goal.returns
returns c =
    subst (λ ids. IsGiven (bytes_in c.args.places.now) (bytes_in c.loop-image.places) ids (zeros_of (answers c.args.objects.now)))
    (take_all c.loop-image.image-index c.args.images.now c.loop-image-test.false) c.loop-image.invariant
