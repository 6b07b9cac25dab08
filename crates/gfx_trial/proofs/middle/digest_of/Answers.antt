use Rattle.std.proofs.Common.{arith}
use Rattle.gfx_trial.proofs.Answering.{hashed, unhashed}
use Rattle.gfx_trial.proofs.middle.digest_of.Goals as goal

pub lacking-requires : goal.lacking-requires
lacking-requires c =
    let (shown, h) = c.requires.there in
    unhashed c.args.first c.args.last c.args.file.now _ shown c.requires.ordered h (λ i. omega (arith, c.type_inv.file i)) c.in-Err.fault c.in-Err.ensures.told
    (λ is. c.in-Err.ensures.read_fault is)

pub returns-in-Ok : goal.returns-in-Ok
returns-in-Ok c = λ shown h.
    hashed c.args.first c.args.last c.args.file.now _ shown c.requires.ordered h (λ i. omega (arith, c.type_inv.file i)) c.in-Ok.digested c.in-Ok.ensures.told
