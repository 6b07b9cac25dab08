use Rattle.std.proofs.Common.{◌≤◌, ◌+◌, drop}
use Rattle.gfx_frames.specs.Texts.{text_of}
use Rattle.gfx_frames.proofs.SoFar.{SoFar}
use Rattle.gfx_frames.proofs.Listed.{lines_from}
use Rattle.gfx_frames.proofs.lines.write_pictures.Given as goal

abbrev pub invariant-pictures : goal.invariant-pictures
invariant-pictures g l = record {
  written : SoFar (g.K.Sink.taken l.initial.sink) (g.K.Sink.taken l.sink) (text_of (g.B.StateBytes.bytes l.bytes) l.listing l.frame)
      (lines_from (g.B.StateBytes.bytes l.bytes) l.listing l.frame.number (1 + l.index) (drop l.index l.pictures));
  later : g.K.Sink.faults l.initial.sink ≤ g.K.Sink.faults l.sink;
}
