use Rattle.std.proofs.Common.{◌++◌}
use Rattle.std.proofs.KnownBytes.{Consumes-trans}
use Rattle.gfx_recording.proofs.text.read_text.Goals as goal

pub returns-in-Err-clause-reads : goal.returns-in-Err-clause-reads
returns-in-Err-clause-reads g c =
    let (piece, more) = c.in-Err.ensures.reads in
    (c.pieces.text.items ++ piece, Consumes-trans _ _ _ c.pieces.text.items piece c.pieces.invariant.text more)
