-- What is recorded in a command buffer, in the words of the capture's questions.
use Rattle.std.specs.Prelude.{ℕ, Bool, flat_map}
use Rattle.gfx_model.specs.Steps.{resources_of}
use Rattle.gfx_model.specs.Questions.{State, Buffer}
use Rattle.gfx_model.specs.Checks.{is_among}
use Rattle.gfx_commands.specs.declared.recording.CbState.{CbState}
use Rattle.gfx_commands.specs.declared.recording.CbState.TheVariants as declared
use Rattle.gfx_commands.specs.declared.recording.Recording.{Recording}
use Rattle.gfx_commands.specs.Commands.{events_in}

-- the state of a command buffer
abbrev pub state_of : CbState → State
state_of declared.Initial = State.initial
state_of declared.Recording = State.recording
state_of declared.Executable = State.executable
state_of declared.Invalid = State.invalid

-- its state, flags and commands
abbrev pub buffer_of : Recording → Buffer
buffer_of r = record { state = state_of r.state; flags = r.flags; commands = events_in r.commands }

-- a command of the buffer names the resource
abbrev pub names : ℕ → Buffer → Bool
names resource b = is_among resource (flat_map resources_of b.commands)
