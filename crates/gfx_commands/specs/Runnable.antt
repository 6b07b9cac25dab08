-- Commands whose operations can be told.
use Rattle.std.specs.Prelude.{◌≡◌, true}
use Rattle.gfx_model.specs.Events.{Event}
use Rattle.gfx_model.specs.Views.{View}
use Rattle.gfx_laws.specs.Lawful.{CommandPasses}
use Rattle.gfx_laws.specs.Laws.{is_command}

-- a command that breaks no check of its row but perhaps that its buffer is recording and that there is room
pub record IsRunnable (v : View) (c : Event) : Type 0 where
  pub command : is_command c ≡ true
  pub passes : CommandPasses v c
