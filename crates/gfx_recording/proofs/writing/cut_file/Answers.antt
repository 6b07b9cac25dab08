use Rattle.std.proofs.Common.{Err, ap, arith}
use Rattle.gfx_recording.proofs.Cutting.{cut_fault, cut_answer}
use Rattle.gfx_recording.proofs.writing.cut_file.Goals as goal

pub uncut-requires : goal.uncut-requires
uncut-requires g c =
    let (shown, means) = c.requires.means in
    cut_fault c.args.first c.args.last c.args.file.now _ shown (λ i. omega (arith, c.type_inv.file i)) means c.in-Err.fault _ _ c.in-Err.ensures.told (λ is. c.in-Err.ensures.read_fault (ap Err is))

pub returns-in-Ok-clause-cuts : goal.returns-in-Ok-clause-cuts
returns-in-Ok-clause-cuts g c = c.in-Ok.ensures.keeps

pub returns-in-Err-clause-cuts : goal.returns-in-Err-clause-cuts
returns-in-Err-clause-cuts g c =
    let (shown, means) = c.requires.means in
    rw c.uncut.ensures (cut_answer c.args.first c.args.last c.args.file.now _ c.in-Err.fault _ _
    (cut_fault c.args.first c.args.last c.args.file.now _ shown (λ i. omega (arith, c.type_inv.file i)) means c.in-Err.fault _ _ c.in-Err.ensures.told (λ is. c.in-Err.ensures.read_fault (ap Err is))) c.in-Err.ensures.told)
