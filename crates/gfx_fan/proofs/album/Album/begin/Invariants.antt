use Rattle.std.proofs.Common.{◌≡◌, length}
use Rattle.gfx_fan.specs.Kept.{images}
use Rattle.gfx_fan.proofs.album.Album.begin.Given as goal

abbrev pub invariant-images : goal.invariant-images
invariant-images g l = record {
  screen : l.self.screen ≡ l.fn.self.screen;
  images_are : images l.self ≡ images l.fn.self;
}

abbrev pub decreases-images : goal.decreases-images
decreases-images g l = length l.self.shown.items
