-- Faults of a printer, passed on.
use Rattle.gfx_frames.specs.declared.lines.PrintFault.{PrintFault}
use Rattle.gfx_frames.specs.declared.lines.PrintFault.TheVariants as printer
use Rattle.gfx_player.specs.declared.fault.PlayFault.{PlayFault}
use Rattle.gfx_player.specs.declared.fault.PlayFault.TheVariants as play

-- a printer's fault
abbrev pub of_printer : PrintFault → PlayFault
of_printer printer.SinkFault = play.SinkFault
of_printer printer.WantMemory = play.WantMemory
