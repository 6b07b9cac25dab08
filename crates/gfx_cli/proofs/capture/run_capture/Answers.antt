use Rattle.std.proofs.Common.{ap, refl}
use Rattle.std.specs.Prelude.{map, string_bytes}
use Rattle.gfx_cli.proofs.Capturing.{unasked, recorded, unrecorded}
use Rattle.gfx_cli.proofs.capture.run_capture.Goals as goal

pub returns-in_default : goal.returns-in_default
returns-in_default g c =
    unasked (map string_bytes c.args.words.now) c.args.source.now (g.S.Source.left c.args.source.now) (g.S.Source.faults c.args.source.now)
    c.args.sink.now (g.K.Sink.taken c.args.sink.now) (g.K.Sink.faults c.args.sink.now) _ c.note.result
    (c.in_default.ensures.none refl) c.note.ensures.ends c.note.ensures.front c.note.ensures.later

pub returns-in-Ok : goal.returns-in-Ok
returns-in-Ok g c =
    recorded (map string_bytes c.args.words.now) c.in-Some.recording _ _ c.args.notes.now (g.N.Sink.taken c.args.notes.now) (g.N.Sink.faults c.args.notes.now)
    (record { asked = c.in-Some.ensures.some; only = c.in-Some.ensures.only }) c.in-Ok.ensures

pub returns-in-Err : goal.returns-in-Err
returns-in-Err g c =
    unrecorded (map string_bytes c.args.words.now) c.in-Some.recording _ _ _ c.in-Err.fault c.tell_capture.result
    (record { asked = c.in-Some.ensures.some; only = c.in-Some.ensures.only }) c.in-Err.ensures (ap g.K.Sink.taken)
    (record {
      ends = c.tell_capture.ensures.ends;
      front = c.tell_capture.ensures.front;
      no_memory = c.tell_capture.ensures.no_memory;
      silent = c.tell_capture.ensures.silent;
      later = c.tell_capture.ensures.later;
    })
