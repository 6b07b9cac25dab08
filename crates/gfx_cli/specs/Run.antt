-- How a run of the program ends.
use Rattle.std.specs.Prelude.{◌≡◌, ℕ, List, [], Result, Err, ⊤}
use Rattle.std.specs.Io.KnownBytes.{Appends}
use Rattle.std.specs.declared.option.Option.{Option}
use Rattle.gfx_io.specs.Causes.{Rose}
use Rattle.gfx_io.specs.Pieces.{AppendsPart}
use Rattle.gfx_io.specs.Told.{IfTold}
use Rattle.gfx_words.specs.declared.command.Command.{Command}
use Rattle.gfx_cli.specs.declared.status.Status.{Status}
use Rattle.gfx_cli.specs.declared.status.Status.TheVariants.{Done, WantMemory, Usage, BadFile, NoSuchFrame, ReadFault, WriteFault, BadScript, CallRefused, LogFull, BadListing}
use Rattle.gfx_cli.specs.declared.stop.Stop.{Stop}
use Rattle.gfx_cli.specs.declared.stop.Stop.TheVariants.{ReadFault as StoppedReading}
use Rattle.gfx_words.specs.declared.command.Command.TheVariants.{Unlist as Unlists}
use Rattle.gfx_cli.specs.Commands.{AsksForFrames, Reads, ReadsCapture, Writes}
use Rattle.gfx_cli.specs.Ends.{Ends, WritesPart}
use Rattle.gfx_cli.specs.Stop.{line_of, status_of}
use Rattle.gfx_cli.specs.Text.{usage_line}
use Rattle.gfx_cli.specs.Words.{IsNamed, IsOutside}

-- the statuses of these commands
abbrev pub IsOfCommands : Status → Type 0
IsOfCommands Done = ⊤
IsOfCommands WantMemory = ⊤
IsOfCommands Usage = ⊤
IsOfCommands BadFile = ⊤
IsOfCommands NoSuchFrame = ⊤
IsOfCommands ReadFault = ⊤
IsOfCommands WriteFault = ⊤
IsOfCommands BadScript = ⊥
IsOfCommands CallRefused = ⊥
IsOfCommands LogFull = ⊥
IsOfCommands BadListing = ⊤

-- the words name a command, and it ended so
pub record Runs (words : List (List ℕ)) (left_old left_new taken_old taken_new : Option (List ℕ)) (end : Result Unit Stop) : Type 0 where
  pub command : Command
  pub named : IsNamed words command
  pub ends : IfTold left_old left_new (Ends command taken_old taken_new end)

-- the words name a command, and the sink took a prefix of what it writes
pub record WritesFront (words : List (List ℕ)) (left_old left_new taken_old taken_new : Option (List ℕ)) : Type 0 where
  pub command : Command
  pub named : IsNamed words command
  pub front : IfTold left_old left_new (λ bytes left. WritesPart command taken_old taken_new bytes)

-- the statuses of a command
abbrev pub MayEnd : Command → Status → Type 0
MayEnd c Done = ⊤
MayEnd c WantMemory = ⊤
MayEnd c Usage = ⊥
MayEnd c BadFile = ReadsCapture c
MayEnd c NoSuchFrame = AsksForFrames c
MayEnd c ReadFault = Reads c
MayEnd c WriteFault = ⊤
MayEnd c BadScript = ⊥
MayEnd c CallRefused = ⊥
MayEnd c LogFull = ⊥
MayEnd c BadListing = c ≡ Unlists

-- the command may stop for this reason
abbrev pub MayStop : Command → Stop → Type 0
MayStop c why = MayEnd c (status_of why)

-- a command that reads no file wrote its text, or a prefix of it
pub record RunsAlone (c : Command) (taken_old taken_new : Option (List ℕ)) (status : Status) : Type 0 where
  pub text : status ≡ Done → Writes c (Appends taken_old taken_new) []
  pub front : Writes c (AppendsPart taken_old taken_new) []

-- how often a source or a sink had failed before a call, and after it
pub record Failures : Type 0 where
  pub before : ℕ
  pub now : ℕ

-- the line that is noted, where there is a reason for it
pub data IsNote (words : List (List ℕ)) (left_old left_new taken_old taken_new : Option (List ℕ)) (reads : Failures) : List ℕ → Type 0 where
  usage_noted : IsOutside words → IsNote words left_old left_new taken_old taken_new reads usage_line
  stop_noted : (stop : Stop) → Runs words left_old left_new taken_old taken_new (Err stop) → (stop ≡ StoppedReading → Rose reads.before reads.now)
      → IsNote words left_old left_new taken_old taken_new reads (line_of stop)
