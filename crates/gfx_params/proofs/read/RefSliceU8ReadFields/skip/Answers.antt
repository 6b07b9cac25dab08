use Rattle.gfx_params.proofs.Skipping.{raw_skipped}
use Rattle.gfx_params.proofs.read.RefSliceU8ReadFields.skip.Goals as goal

pub returns-in-Some : goal.returns-in-Some
returns-in-Some c = raw_skipped c.args.bytes.now c.in-Some.behind.now c.split_at.result.1.now c.in-Some.length c.in-Some.ensures c.if-length-behind.true c.split_at.ensures.back
