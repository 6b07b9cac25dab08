use Rattle.std.proofs.Common.{◌≡◌, map, drop}
use Rattle.gfx_model.specs.Checks as words
use Rattle.gfx_rules.proofs.lists.near_all.Given as goal

abbrev pub invariant-ids : goal.invariant-ids
invariant-ids g l = let v = g.A.Answers.view l.answers in
    words.first_broken v (map (λ x. words.Check.near x l.other) (drop l.id-index l.ids)) ≡ words.first_broken v (map (λ x. words.Check.near x l.other) l.ids)
