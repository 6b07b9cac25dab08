-- Laws of a tracker's operations, which functions with empty bodies promise.
use Rattle.std.specs.Prelude.{◌≡◌, List, [], ◌∷◌, flat_map}
use Rattle.gfx_model.specs.Events.{Event}
use Rattle.gfx_model.specs.Steps.{Step, Change}
use Rattle.gfx_model.specs.Steps.Step.{changes}
use Rattle.gfx_model.specs.Views.{View}
use Rattle.gfx_model.specs.Effects.{steps_of, changes_of_op}
use Rattle.gfx_tracker.specs.Operations.{ops_of, given_by}

-- the changes of bytes and layouts among steps
abbrev pub changes_in : List Step → List Change
changes_in [] = []
changes_in (changes c ∷ ss) = c ∷ changes_in ss
changes_in (_ ∷ ss) = changes_in ss

-- the operations of an event make the changes of its steps
abbrev pub OperationsOfEvents : Type 0
OperationsOfEvents = (v : View) (e : Event) → flat_map (changes_of_op (given_by e)) (ops_of v e) ≡ changes_in (steps_of v e)
