use Rattle.std.proofs.Common.{◌≡◌, nat_le, map, drop}
use Rattle.gfx_model.specs.Table as table
use Rattle.gfx_model.specs.Checks as words
use Rattle.gfx_rules.proofs.lists.marks_each.Given as goal

abbrev pub invariant-marks : goal.invariant-marks
invariant-marks g l = let v = g.A.Answers.view l.answers in
    words.first_broken v (map (λ a. table.value (nat_le a 1)) (drop l.mark-index l.marks)) ≡ words.first_broken v (map (λ a. table.value (nat_le a 1)) l.marks)
