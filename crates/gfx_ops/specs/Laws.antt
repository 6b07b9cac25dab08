-- What the operations promise.
use Rattle.std.specs.Prelude.{◌≡◌, ℕ, List, flat_map}
use Rattle.gfx_model.specs.Events.{Event}
use Rattle.gfx_model.specs.Views.{View}
use Rattle.gfx_model.specs.Effects.{changes_of_command, changes_of_op}
use Rattle.gfx_ops.specs.Operations.{ops_of_command}

-- the operations of a command make its changes
abbrev pub OperationsAreChanges : Type 0
OperationsAreChanges = (v : View) (command : Event) (given : List ℕ) →
    flat_map (changes_of_op given) (ops_of_command v command) ≡ changes_of_command v command
