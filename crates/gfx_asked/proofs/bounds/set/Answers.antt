use Rattle.std.proofs.Common.{◌∙◌, ap}
use Rattle.std.proofs.lemmas.Result.{err_from_is_err_and}
use Rattle.std.specs.Ordering.{nat_cmp}
use Rattle.std.specs.Map.{lookup}
use Rattle.std.specs.BTreeMap.{is_at}
use Rattle.gfx_asked.specs.Bounds.{at_last, change_at}
use Rattle.gfx_asked.proofs.Changes.{idle_put, made, sets}
use Rattle.gfx_asked.proofs.bounds.set.Goals as goal

pub returns-in_err-insert-2-clause-err : goal.returns-in_err-insert-2-clause-err
returns-in_err-insert-2-clause-err c =
    let p = err_from_is_err_and c.from_residual-in_err-insert-2.result c.from_residual-in_err-insert-2.ensures.1 in
    rw p.1 (λ j.
    ap (λ es. at_last (λ q. lookup (is_at (nat_cmp q)) es) j) c.in_err-insert-2.ensures.err
    ∙ idle_put (change_at c.args.bounds.now) (change_at c.insert.new.self) c.args.to c.holds-after.result c.holds-after.ensures (c.in_ok-insert.ensures.updates).0 j)

pub returns-clause-ok : goal.returns-clause-ok
returns-clause-ok c = λ j.
    sets (change_at c.args.bounds.now) (change_at c.drop_idle-2.new.bounds) c.args.from c.args.to c.args.held
    (made (change_at c.args.bounds.now) (change_at c.insert.new.self) (change_at c.insert-2.new.self) (change_at c.clear_between.new.bounds) (change_at c.drop_idle.new.bounds) _ c.args.from c.args.to
    c.args.held c.held_before-before.result c.holds-after.result c.requires c.held_before-before.ensures c.holds-after.ensures
    (c.in_ok-insert.ensures.updates).0 (c.in_ok-insert-2.ensures.updates).0 c.clear_between.ensures c.drop_idle.ensures.here c.drop_idle.ensures.others c.drop_idle-2.ensures.here c.drop_idle-2.ensures.others) j
