use Rattle.gfx_replay.proofs.Showing.{memory_stored, images_stored}
use Rattle.gfx_replay.proofs.places_are_stored.Goals as goal

pub returns : goal.returns
returns c b v es h stands = record {
  memories = memory_stored b v es stands;
  images = images_stored b v es h stands;
}
