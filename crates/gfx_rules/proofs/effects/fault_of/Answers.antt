use Rattle.std.proofs.Common.{refl}
use Rattle.gfx_model.specs.Events.{event_of}
use Rattle.gfx_model.specs.Table.{place_of, row_of}
use Rattle.gfx_rules.proofs.Joined.{stops, goes_on}
use Rattle.gfx_rules.proofs.effects.fault_of.Goals as goal

pub returns-in-Some : goal.returns-in-Some
returns-in-Some g c =
    stops (g.A.Answers.view c.args.answers.now) (place_of (event_of c.args.effect.now)) (row_of (event_of c.args.effect.now)) _ _ c.in-Some.ensures refl

pub returns-in-None : goal.returns-in-None
returns-in-None g c =
    goes_on (g.A.Answers.view c.args.answers.now) (place_of (event_of c.args.effect.now)) (row_of (event_of c.args.effect.now)) _ _ c.in-None.ensures c.row_fault.ensures refl
