-- Where a text stands.
use Rattle.std.specs.Prelude.{ℕ, Bool, true, false, ◌&&◌, List}
use Rattle.gfx_script_model.specs.Statements.{is_empty}
use Rattle.gfx_script.specs.declared.reading.Stage.{Stage}
use Rattle.gfx_script.specs.declared.reading.Stage.TheVariants.{NoPhase, InPhase, InThread}

-- no phase ended before the first, no thread before the first of a phase, and no line is under no thread
abbrev pub is_staged : {X Y Z : Type 0} → Stage → List X → List Y → List Z → Bool
is_staged NoPhase phases parts lines = is_empty phases && is_empty parts && is_empty lines
is_staged InPhase phases parts lines = is_empty parts && is_empty lines
is_staged (InThread thread) phases parts lines = true

-- no phase is read
abbrev pub is_outside : Stage → Bool
is_outside NoPhase = true
is_outside _ = false

-- a thread is read
abbrev pub is_in_thread : Stage → Bool
is_in_thread (InThread thread) = true
is_in_thread _ = false

-- the thread that is read, or 0
abbrev pub thread_of_stage : Stage → ℕ
thread_of_stage (InThread thread) = thread
thread_of_stage _ = 0
