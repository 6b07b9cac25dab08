use Rattle.std.proofs.Common.{ap, arith}
use Rattle.gfx_trial.proofs.Answering.{unwritten}
use Rattle.gfx_trial.proofs.Files.{cut_has}
use Rattle.gfx_trial.proofs.middle.cut_out.Goals as goal

pub lacking-requires : goal.lacking-requires
lacking-requires c =
    let (shown, h) = c.requires.there in
    unwritten c.args.first c.args.last c.args.file.now _ shown c.requires.ordered h (λ i. omega (arith, c.type_inv.file i)) c.in-Err.fault _ _ c.in-Err.ensures.told
    (λ is. c.in-Err.ensures.read_fault is)

pub returns-in-Ok : goal.returns-in-Ok
returns-in-Ok c = λ shown h.
    cut_has c.args.first c.args.last c.args.file.now shown c.requires.ordered h (λ i. omega (arith, c.type_inv.file i)) c.new-sink.result.taken c.trim.new.sink.taken
    c.into_bytes.result.items (ap (λ s. s.taken) c.new-sink.ensures) c.into_bytes.ensures c.in-Ok.ensures.keeps
