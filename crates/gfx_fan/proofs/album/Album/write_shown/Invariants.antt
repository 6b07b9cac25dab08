use Rattle.std.proofs.Common.{◌≤◌, drop}
use Rattle.gfx_frames.proofs.SoFar.{SoFar}
use Rattle.gfx_fan.specs.Kept.{lines_of, newer}
use Rattle.gfx_fan.proofs.album.Album.write_shown.Given as goal

abbrev pub invariant-images : goal.invariant-images
invariant-images g l = record {
  written : SoFar (g.K.Sink.taken l.fn.sink) (g.K.Sink.taken l.sink) (lines_of (newer l.self.shown.items)) (lines_of (newer (drop l.index l.self.shown.items)));
  later : g.K.Sink.faults l.fn.sink ≤ g.K.Sink.faults l.sink;
}
