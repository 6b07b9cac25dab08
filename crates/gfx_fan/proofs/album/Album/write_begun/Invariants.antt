use Rattle.std.proofs.Common.{◌≡◌, ◌≤◌, drop}
use Rattle.gfx_frames.proofs.SoFar.{SoFar}
use Rattle.gfx_fan.specs.Kept.{kept_lines}
use Rattle.gfx_fan.proofs.album.Album.write_begun.Given as goal

abbrev pub invariant-images : goal.invariant-images
invariant-images g l = record {
  screen : l.self.screen ≡ l.fn.self.screen;
  shown : l.self.shown ≡ l.fn.self.shown;
  size : l.self.size ≡ l.fn.self.size;
  begun : l.self.begun.items ≡ drop l._index l.fn.self.begun.items;
  written : SoFar (g.K.Sink.taken l.fn.sink) (g.K.Sink.taken l.sink) (kept_lines l.fn.self) (kept_lines l.self);
  later : g.K.Sink.faults l.fn.sink ≤ g.K.Sink.faults l.sink;
}
