use Rattle.std.proofs.Common.{◌∷◌, ◌++◌, [], nat_le, refl}
use Rattle.gfx_types.specs.declared.names.Kind.TheVariants as kind
use Rattle.gfx_model.specs.Table as table
use Rattle.gfx_model.specs.Checks as words
use Rattle.gfx_model.specs.Limits.{max_semaphores, max_presents}
use Rattle.gfx_rules.proofs.Joined.{joins}
use Rattle.gfx_rules.proofs.rows_queue.present_front.Goals as goal

pub returns : goal.returns
returns g c = let v = g.A.Answers.view c.args.answers.now in
    let front = words.Check.live kind.Queue c.args.queue ∷ table.between 0 max_semaphores c.args.waits.now in
    let waits = table.near_each kind.Semaphore c.args.queue c.args.waits.now in
    let counted = table.value (nat_le 1 c.args.count) ∷ table.limit (nat_le c.args.count max_presents) ∷ [] in
    joins v (front ++ waits) counted _ _ _ _ (joins v front waits _ _ _ _ c.first_broken-front.ensures c.near_each.ensures c.first.ensures refl)
    c.first_broken-counted.ensures c.first-2.ensures refl
