use Rattle.std.proofs.Common.{◌∷◌, refl}
use Rattle.gfx_types.specs.declared.names.Kind.TheVariants as kind
use Rattle.gfx_model.specs.Table as table
use Rattle.gfx_model.specs.Checks as words
use Rattle.gfx_model.specs.Limits.{max_list_length}
use Rattle.gfx_rules.proofs.Joined.{stops, goes_on, joins}
use Rattle.gfx_rules.proofs.rows_signals.fences_fault.Goals as goal

pub returns-in-Some : goal.returns-in-Some
returns-in-Some g c = stops (g.A.Answers.view c.args.answers.now) (words.Check.live kind.Device c.args.device ∷ table.between 1 max_list_length c.args.fences.now) _ _ _ c.in-Some.ensures refl

pub returns-in-None : goal.returns-in-None
returns-in-None g c = let v = g.A.Answers.view c.args.answers.now in
    goes_on v (words.Check.live kind.Device c.args.device ∷ table.between 1 max_list_length c.args.fences.now) _ _ _ c.in-None.ensures
    (joins v _ _ _ _ _ _ c.live_each-live.ensures c.of_each.ensures c.first.ensures refl)
    refl
