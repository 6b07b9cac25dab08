-- The number of each status.
use Rattle.std.specs.Prelude.{ℕ}
use Rattle.gfx_cli.specs.declared.status.Status.{Status}
use Rattle.gfx_cli.specs.declared.status.Status.TheVariants.{Done, WantMemory, Usage, BadFile, NoSuchFrame, ReadFault, WriteFault, BadScript, CallRefused, LogFull, BadListing}

-- the number with which the process ends
abbrev pub status_code : Status → ℕ
status_code Done = 0
status_code WantMemory = 1
status_code Usage = 2
status_code BadFile = 3
status_code NoSuchFrame = 4
status_code ReadFault = 5
status_code WriteFault = 6
status_code BadScript = 7
status_code CallRefused = 8
status_code LogFull = 9
status_code BadListing = 11
