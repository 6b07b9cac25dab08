use Rattle.gfx_params.proofs.Skipping.{both_skipped}
use Rattle.gfx_params.proofs.read.Tuple2ReadFields.skip.Goals as goal

pub returns-in-Some : goal.returns-in-Some
returns-in-Some g c =
    let (x, is) = c.in-Some.ensures in
    both_skipped (λ r. r.now) g.A.ReadFields.reader g.B.ReadFields.reader c.args.bytes.now c.in-Some.behind.now x c.skip-in-Some.result is c.skip-in-Some.ensures
