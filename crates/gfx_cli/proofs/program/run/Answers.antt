use Rattle.std.proofs.Common.{subst, sym}
use Rattle.std.specs.Prelude.{Ok, map, string_bytes}
use Rattle.gfx_io.specs.Told.{IfTold}
use Rattle.gfx_cli.specs.Captures.{Ends}
use Rattle.gfx_cli.proofs.Choosing.{one_asked}
use Rattle.gfx_cli.proofs.program.run.Goals as goal

pub returns-in-capture-clause-records : goal.returns-in-capture-clause-records
returns-in-capture-clause-records g c is recording asked =
    let run = (c.run_capture.ensures.done is).0 in
    subst (λ r. IfTold (g.S.Source.left c.args.source.now) (g.S.Source.left c.run_capture.new.source) (Ends r (g.K.Sink.taken c.args.sink.now) (g.K.Sink.taken c.run_capture.new.sink) (Ok tt)))
    (sym (one_asked (map string_bytes c.args.words.now) run.recording recording run.asked asked)) run.ends
