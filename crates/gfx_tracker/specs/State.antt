-- What the state of a tracker answers.
use Rattle.gfx_model.specs.Views.{View}
use Rattle.gfx_commands.specs.Recordings.{buffers}
use Rattle.gfx_tracker.specs.declared.state.State.{State}
use Rattle.gfx_tracker.specs.Registry.{answers_of}
use Rattle.gfx_tracker.specs.Gathered.{gathered}

-- all answers of the state
abbrev pub state_answers : State → View
state_answers s = gathered (answers_of s.registry) (buffers s.recordings) s.next_frame s.is_empty s.section
