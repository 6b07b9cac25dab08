-- How a command ends, over the bytes that the source had left and has left.
use Rattle.std.specs.Prelude.{◌≡◌, ◌⊎◌, ℕ, List, [], ◌++◌, Option, Result, Ok, Err, OnOk, IfErr}
use Rattle.std.specs.Io.KnownBytes.{Appends}
use Rattle.gfx_io.specs.Pieces.{AppendsPart}
use Rattle.gfx_words.specs.declared.command.Command.{Command}
use Rattle.gfx_cli.specs.declared.stop.Stop.{Stop}
use Rattle.gfx_cli.specs.declared.stop.Stop.TheVariants.{WantMemory, BadFile, NoSuchFrame, ReadFault, WriteFault, BadListing}
use Rattle.gfx_cli.specs.Commands.{GoesOn, IsGood, IsBad, IsBadLine, LacksFrame, Leaves, Reads, Writes, text_before}
use Rattle.gfx_cli.specs.Stop.{IsUnwritten}

-- nothing was written, or a prefix of what the command writes
abbrev pub WritesPart : Command → Option (List ℕ) → Option (List ℕ) → List ℕ → Type 0
WritesPart c before after bytes = Appends before after [] ⊎ Writes c (AppendsPart before after) bytes

-- all was written
pub record IsDone (c : Command) (before after : Option (List ℕ)) (bytes left : List ℕ) : Type 0 where
  pub good : IsGood c bytes
  pub leaves : Leaves c bytes left
  pub text : Writes c (Appends before after) bytes

-- what is before the place where reading stopped was written, and nothing there stops the command
pub record IsCutOff (c : Command) (before after : Option (List ℕ)) (bytes left : List ℕ) : Type 0 where
  pub reads : Reads c
  pub read : List ℕ
  pub parts : bytes ≡ read ++ left
  pub going : GoesOn c read
  pub text : Appends before after (text_before c read)
  -- which is a prefix of the command's text
  pub front : WritesPart c before after bytes

-- why a command stopped, and what it wrote by then
abbrev pub Stops : Command → Option (List ℕ) → Option (List ℕ) → Stop → List ℕ → List ℕ → Type 0
Stops c before after (BadFile fault block offset) bytes left = IsBad c fault block offset bytes × Appends before after (text_before c bytes)
Stops c before after (NoSuchFrame first last) bytes left = LacksFrame c first last bytes × Appends before after (text_before c bytes) × (left ≡ [])
Stops c before after ReadFault bytes left = IsCutOff c before after bytes left
Stops c before after WriteFault bytes left = Writes c (AppendsPart before after) bytes
Stops c before after WantMemory bytes left = WritesPart c before after bytes
Stops c before after (BadListing line) bytes left = IsBadLine c line bytes × Appends before after (text_before c bytes)

-- how a command ends
abbrev pub Ends : Command → Option (List ℕ) → Option (List ℕ) → Result Unit Stop → List ℕ → List ℕ → Type 0
Ends c before after (Ok done) bytes left = IsDone c before after bytes left
Ends c before after (Err stop) bytes left = Stops c before after stop bytes left

-- how a command ends that reads no file, whatever the source is
pub record EndsAlone (c : Command) (before after : Option (List ℕ)) (end : Result Unit Stop) : Type 0 where
  pub text : OnOk end (Writes c (Appends before after) [])
  pub front : Writes c (AppendsPart before after) []
  pub why : IfErr end IsUnwritten
