use Rattle.std.proofs.Common.{◌∙◌}
use Rattle.std.proofs.lemmas.Result.{err_from_is_err_and}
use Rattle.gfx_ops.proofs.Appending.{front_stays}
use Rattle.gfx_tracker.proofs.expansion.expand_each.Goals as goal

pub returns-in_err-expand-clause-err : goal.returns-in_err-expand-clause-err
returns-in_err-expand-clause-err c =
    let p = err_from_is_err_and c.from_residual.result c.from_residual.ensures.1 in
    rw p.1 (front_stays c.args.ops.now _ c.expand.new.ops (c.in_err-expand.ensures.err ∙ c.cbs.invariant))
