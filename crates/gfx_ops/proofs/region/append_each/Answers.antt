use Rattle.std.proofs.Common.{subst, sym, ◌∙◌}
use Rattle.std.proofs.lemmas.Result.{err_from_is_err_and}
use Rattle.gfx_ops.proofs.Appending.{front_stays, all_at}
use Rattle.gfx_ops.proofs.region.append_each.Goals as goal

pub op-requires : goal.op-requires
op-requires g c =
    subst (λ item. g.M.MakesOp.may c.args.maker.now item) (sym c.item-item.is)
    (all_at (g.M.MakesOp.may c.args.maker.now) c.args.items.now c.items.item-index c.item-item.result c.items-test.true c.requires)

pub returns-in_err-push-clause-err : goal.returns-in_err-push-clause-err
returns-in_err-push-clause-err g c =
    let p = err_from_is_err_and c.from_residual.result c.from_residual.ensures.1 in
    rw p.1 (front_stays c.args.ops.now _ c.push.new.self (c.in_err-push.ensures.err ∙ c.items.invariant))
