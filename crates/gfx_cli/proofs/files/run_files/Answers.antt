use Rattle.std.proofs.Common.{refl}
use Rattle.std.specs.Prelude.{map, string_bytes}
use Rattle.gfx_cli.proofs.Promising.{refused, finished, stopped}
use Rattle.gfx_cli.proofs.files.run_files.Goals as goal

pub returns-in_default : goal.returns-in_default
returns-in_default g c =
    refused (map string_bytes c.args.words.now) c.args.source.now (g.S.Source.left c.args.source.now) (g.S.Source.faults c.args.source.now)
    c.args.sink.now (g.K.Sink.taken c.args.sink.now) (g.K.Sink.faults c.args.sink.now) _ c.note.result
    (c.in_default.ensures.none refl) c.note.ensures.ends c.note.ensures.front c.note.ensures.later

pub returns-in-Ok : goal.returns-in-Ok
returns-in-Ok g c =
    finished (map string_bytes c.args.words.now) c.in-Some.command _ _ c.args.notes.now (g.N.Sink.taken c.args.notes.now) (g.N.Sink.faults c.args.notes.now)
    (record { named = c.in-Some.ensures.some; only = c.in-Some.ensures.only }) c.in-Ok.ensures

pub returns-in-Err : goal.returns-in-Err
returns-in-Err g c =
    stopped (map string_bytes c.args.words.now) c.in-Some.command _ _ _ c.in-Err.stop c.tell.result
    (record { named = c.in-Some.ensures.some; only = c.in-Some.ensures.only }) c.in-Err.ensures
    (record {
      ends = c.tell.ensures.ends;
      front = c.tell.ensures.front;
      no_memory = c.tell.ensures.no_memory;
      silent = c.tell.ensures.silent;
      later = c.tell.ensures.later;
    })
