use Rattle.std.proofs.Common.{◌≡◌, flat_map, drop}
use Rattle.gfx_model.specs.Table as table
use Rattle.gfx_model.specs.Checks as words
use Rattle.gfx_rules.proofs.submits.near_submits.Given as goal

abbrev pub invariant-submits : goal.invariant-submits
invariant-submits g l = let v = g.A.Answers.view l.answers in
    words.first_broken v (flat_map (table.submit_near l.queue) (drop l.submit-index l.submits)) ≡ words.first_broken v (flat_map (table.submit_near l.queue) l.submits)
