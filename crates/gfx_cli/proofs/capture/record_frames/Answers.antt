use Rattle.std.proofs.Common.{subst, sym}
use Rattle.std.specs.Prelude.{IfSome}
use Rattle.gfx_decode.proofs.Told.{told_if}
use Rattle.gfx_io.specs.Told.{IfTold}
use Rattle.gfx_recording.specs.Records.{IsSafeText, Records}
use Rattle.gfx_cli.specs.Commands.{asked_by}
use Rattle.gfx_cli.proofs.Recorded.{ends_of}
use Rattle.gfx_cli.proofs.capture.record_frames.Goals as goal

pub returns : goal.returns
returns g c =
    let before = g.K.Sink.taken c.args.sink.now in
    let after = g.K.Sink.taken c.record.new.sink in
    let is = c.record.ensures in
    record {
      ends =
          told_if _ _ (Records c.args.recording.gathers (asked_by c.args.recording.frames) before after c.record.result) _
          (subst (λ a. IfTold (g.S.Source.left c.args.source.now) (g.S.Source.left c.record.new.source) (Records c.args.recording.gathers a before after c.record.result)) c.asked_by-asked.ensures is.told)
          (λ all rest. ends_of c.args.recording before after c.record.result all rest);
      leaves = is.leaves;
      complete = λ told safe reads writes. is.complete told (subst (λ a. IfSome (g.S.Source.left c.args.source.now) (IsSafeText c.args.recording.gathers a)) (sym c.asked_by-asked.ensures) safe) reads writes;
      read_fault = is.read_fault;
      sink_fault = is.sink_fault;
      later = is.later;
    }
