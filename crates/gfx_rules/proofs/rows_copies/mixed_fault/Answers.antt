use Rattle.std.proofs.Common.{refl}
use Rattle.gfx_rules.proofs.Joined.{joins}
use Rattle.gfx_rules.proofs.rows_copies.mixed_fault.Goals as goal

pub returns : goal.returns
returns g c = joins (g.A.Answers.view c.args.answers.now) _ _ _ _ _ _ c.mixed_values-values.ensures c.mixed_regions_in.ensures c.first.ensures refl
