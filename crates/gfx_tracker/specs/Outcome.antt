-- What a tracker says of an effect.
use Rattle.std.specs.Prelude.{Option, Some, None, Result, Ok, Err}
use Rattle.gfx_types.specs.declared.names.Fault.{Fault}
use Rattle.gfx_model.specs.Events.{Event}
use Rattle.gfx_model.specs.Events.Event.{QueuePresentKHR}
use Rattle.gfx_tracker.specs.declared.outcome.Outcome.{Outcome}
use Rattle.gfx_tracker.specs.declared.outcome.Outcome.TheVariants as outcome
use Rattle.gfx_tracker.specs.declared.outcome.ApplyFault.{ApplyFault}
use Rattle.gfx_tracker.specs.declared.outcome.ApplyFault.TheVariants as fault

-- what an event shows: a present presents, and nothing else does
abbrev pub outcome_of : Event → Outcome
outcome_of (QueuePresentKHR queue waits presents) = outcome.Presented
outcome_of _ = outcome.Nothing

-- the rule fault among the ends of an application
abbrev pub rule_of : ApplyFault → Option Fault
rule_of (fault.Rule f) = Some f
rule_of fault.WantMemory = None

-- the rule fault of an application, None where it was taken and where memory was wanting
abbrev pub rule_in : Result Outcome ApplyFault → Option Fault
rule_in (Ok o) = None
rule_in (Err f) = rule_of f
