use Rattle.std.proofs.Common.{◌≡◌, ◌≤◌, ◌+◌, ◌++◌, drop}
use Rattle.gfx_frames.specs.Texts.{text_of}
use Rattle.gfx_replay.specs.Replayer.{bytes_of}
use Rattle.gfx_frames.proofs.Listed.{lines_from}
use Rattle.gfx_frames.proofs.SoFar.{SoFar}
use Rattle.gfx_fan.specs.Kept.{IsSmall, kept_lines}
use Rattle.gfx_fan.proofs.album.Album.show.Given as goal

abbrev pub invariant-pictures : goal.invariant-pictures
invariant-pictures g l =
    let places = bytes_of l.replayer in
    record {
      screen : l.self.screen ≡ l.fn.self.screen;
      small : IsSmall l.self;
      written : SoFar (g.K.Sink.taken l.fn.sink) (g.K.Sink.taken l.sink) (kept_lines l.fn.self ++ text_of places l.fn.self.screen.listing l.frame)
          (kept_lines l.self ++ lines_from places l.fn.self.screen.listing l.frame.number (1 + l.index) (drop l.index l.pictures));
      later : g.K.Sink.faults l.fn.sink ≤ g.K.Sink.faults l.sink;
    }
