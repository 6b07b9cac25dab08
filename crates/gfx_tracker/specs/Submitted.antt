-- The steps of a submit, and what they need.
use Rattle.std.specs.Prelude.{◌≡◌, ℕ, true}
use Rattle.std.specs.List.{AllByRecursion}
use Rattle.gfx_types.specs.declared.lists.Submit.{Submit}
use Rattle.gfx_model.specs.Steps.{Step}
use Rattle.gfx_model.specs.Steps.Step.{executed, signals, unsignals}
use Rattle.gfx_model.specs.Views.{View}
use Rattle.gfx_model.specs.Checks.{Turn, is_executable}
use Rattle.gfx_model.specs.Checks.Turn.{wait, execute, signal}
use Rattle.gfx_model.specs.Layouts.{asked_in}
use Rattle.gfx_commands.specs.Differing.{SetsLive}
use Rattle.gfx_tracker.specs.Taking.{HasSignal}

-- the step of a turn, without what the commands of its buffer change
abbrev pub own_step : Turn → Step
own_step (wait s) = unsignals s
own_step (execute cb) = executed cb
own_step (signal s) = signals s

-- the buffer may be executed
abbrev pub IsExecutable : View → ℕ → Type 0
IsExecutable v cb = is_executable (v.buffer cb).state ≡ true

-- what the submit waits for and signals is live
pub record HasSignals (v : View) (s : Submit) : Type 0 where
  pub waits : AllByRecursion (HasSignal v) s.waits
  pub signals : AllByRecursion (HasSignal v) s.signals

-- each layout that the command buffer sets is that of a live image
abbrev pub SetLayoutsOfLive : View → ℕ → Type 0
SetLayoutsOfLive v cb = AllByRecursion (SetsLive v) (asked_in v.buffer cb)
