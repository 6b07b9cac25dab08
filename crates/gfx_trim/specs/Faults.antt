-- Faults of a section, passed on.
use Rattle.gfx_state.specs.declared.fault.StateFault.{StateFault}
use Rattle.gfx_state.specs.declared.fault.StateFault.TheVariants as state
use Rattle.gfx_player.specs.declared.fault.PlayFault.{PlayFault}
use Rattle.gfx_player.specs.declared.fault.PlayFault.TheVariants as play

-- the fault of a section that isn't written whole
abbrev pub of_state : StateFault → PlayFault
of_state state.SinkFault = play.SinkFault
of_state state.WantMemory = play.WantMemory
