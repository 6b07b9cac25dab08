use Rattle.std.proofs.Common.{◌≤◌}
use Rattle.std.specs.Io.KnownBytes.{Appends}
use Rattle.gfx_replay.specs.Shown.{picture_of}
use Rattle.gfx_frames.proofs.RowLines.{rows_to}
use Rattle.gfx_frames.proofs.rows.write_rows.Given as goal

abbrev pub invariant-rows : goal.invariant-rows
invariant-rows g l = record {
  took : Appends (g.K.Sink.taken l.initial.sink) (g.K.Sink.taken l.sink) (rows_to (picture_of (g.B.StateBytes.bytes l.bytes) l.picture) l.k);
  later : g.K.Sink.faults l.initial.sink ≤ g.K.Sink.faults l.sink;
}
