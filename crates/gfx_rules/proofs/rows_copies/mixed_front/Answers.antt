use Rattle.std.proofs.Common.{◌∷◌, [], nat_le, refl, rules}
use Rattle.gfx_types.specs.declared.names.Kind.TheVariants as kind
use Rattle.gfx_model.specs.Table as table
use Rattle.gfx_model.specs.Checks as words
use Rattle.gfx_model.specs.Limits.{max_regions}
use Rattle.gfx_rules.proofs.Joined.{goes_on}
use Rattle.gfx_rules.proofs.rows_copies.mixed_front.Goals as goal

pub returns-then-not-is_either : goal.returns-then-not-is_either
unfolding words.broken
returns-then-not-is_either g c = let a = c.args in
    goes_on (g.A.Answers.view a.answers.now)
    (words.Check.live kind.CommandBuffer a.cb ∷ words.Check.recording a.cb ∷ table.copied a.cb a.of a.source a.to a.target)
    (table.value (words.is_among a.layout (a.usual ∷ 1 ∷ [])) ∷ table.value (nat_le 1 a.count) ∷ table.limit (nat_le a.count max_regions) ∷ [])
    _ _ c.in_default.ensures (search rules) refl

pub returns : goal.returns
unfolding words.broken
returns g c = let a = c.args in
    goes_on (g.A.Answers.view a.answers.now)
    (words.Check.live kind.CommandBuffer a.cb ∷ words.Check.recording a.cb ∷ table.copied a.cb a.of a.source a.to a.target)
    (table.value (words.is_among a.layout (a.usual ∷ 1 ∷ [])) ∷ table.value (nat_le 1 a.count) ∷ table.limit (nat_le a.count max_regions) ∷ [])
    _ _ c.in_default.ensures (search rules) refl
