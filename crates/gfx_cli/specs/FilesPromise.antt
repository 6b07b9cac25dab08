-- What is promised of words that do not begin with `capture`.
use Rattle.std.specs.Prelude.{◌≡◌, ◌⊎◌, ◌≤◌, ℕ, List, Ok, Err, IfSome}
use Rattle.std.specs.Io.KnownBytes.{Appends}
use Rattle.gfx_io.specs.Pieces.{AppendsPart}
use Rattle.gfx_io.specs.Told.{IfTold, IsTold}
use Rattle.gfx_types.specs.declared.names.Fault.{Fault}
use Rattle.gfx_model.specs.Text.{bad_line}
use Rattle.gfx_trim.specs.Keeps.{Keeps}
use Rattle.gfx_lean.specs.Leans.{Keeps as LeanKeeps}
use Rattle.gfx_upgrade.specs.Laws.{TookSame}
use Rattle.gfx_list.specs.Lists.{TookListing}
use Rattle.gfx_list.specs.Unlists.{IsUnlisted}
use Rattle.gfx_words.specs.declared.range.FrameRange.{FrameRange}
use Rattle.gfx_words.specs.declared.command.Command.{Command}
use Rattle.gfx_words.specs.declared.command.Command.TheVariants.{Trim, Lean, Upgrade, List as Lists, Unlist as Unlists}
use Rattle.gfx_cli.specs.declared.status.Status.{Status}
use Rattle.gfx_cli.specs.declared.status.Status.TheVariants as status
use Rattle.gfx_cli.specs.declared.stop.Stop.TheVariants as stop
use Rattle.gfx_cli.specs.Commands.{IsBad, IsBadLine, IsGood, LacksFrame, Reads}
use Rattle.gfx_cli.specs.Run.{IsNote, IsOfCommands, MayEnd, Runs, RunsAlone, WritesFront}
use Rattle.gfx_cli.specs.Seen.{Failed, Seen}
use Rattle.gfx_cli.specs.Text.{bad_listing_line, no_such_frame_line, read_fault_line, usage_line}
use Rattle.gfx_cli.specs.Words.{IsNamed, IsOutside}

-- what `run_files` promises
pub record KeepsFiles {S K N : Type 0} (words : List (List ℕ)) (source : Seen S) (sink : Seen K) (notes : Seen N) (result : Status) : Type 0 where
  pub statuses : IsOfCommands result
  -- words of no command are answered by the usage line, before anything is read or written
  pub usage : result ≡ status.Usage → IsOutside words × Appends notes.bytes_before notes.bytes_now usage_line
  pub refused : IsOutside words → ((result ≡ status.Usage) ⊎ (result ≡ status.WriteFault)) × (source.now ≡ source.before) × (sink.now ≡ sink.before)
  -- a command that reads no file leaves the source alone
  pub unread : (command : Command) → IsNamed words command → ¬ Reads command → source.now ≡ source.before
  -- it is promised of any source: its text, and that just a lack of memory or a failed write stops it
  pub alone : (command : Command) → IsNamed words command → ¬ Reads command
      → RunsAlone command sink.bytes_before sink.bytes_now result × (¬ Failed sink → (result ≡ status.Done) ⊎ (result ≡ status.WantMemory))
  -- a command ends with statuses of its own alone
  pub may : (command : Command) → IsNamed words command → MayEnd command result
  -- the file has all that the command asks for, and its text was written
  pub done : result ≡ status.Done → Runs words source.bytes_before source.bytes_now sink.bytes_before sink.bytes_now (Ok tt) × (notes.now ≡ notes.before)
  -- of a file that was cut, the sink took one that ends cleanly and whose frames are exactly those of the range
  pub keeps : result ≡ status.Done → (range : FrameRange) → IsNamed words (Trim range)
      → IfTold source.bytes_before source.bytes_now (λ bytes _. Keeps range.first range.last sink.bytes_before sink.bytes_now bytes)
  -- and so it is where what the range never needs was left out
  pub leans : result ≡ status.Done → (range : FrameRange) → IsNamed words (Lean range)
      → IfTold source.bytes_before source.bytes_now (λ bytes _. LeanKeeps range.first range.last sink.bytes_before sink.bytes_now bytes)
  -- of a file that was upgraded, the sink took one that has its history, its frames and its first bad block
  pub same : result ≡ status.Done → IsNamed words Upgrade
      → IfTold source.bytes_before source.bytes_now (λ bytes _. TookSame sink.bytes_before sink.bytes_now bytes)
  -- of a file that was listed, the sink took its listing; and of a listing that was read to its end, the file that has it
  pub lists : result ≡ status.Done → IsNamed words Lists
      → IfTold source.bytes_before source.bytes_now (λ bytes _. TookListing sink.bytes_before sink.bytes_now bytes)
  pub unlists : result ≡ status.Done → IsNamed words Unlists
      → IfTold source.bytes_before source.bytes_now (λ text left. IsUnlisted (Appends sink.bytes_before sink.bytes_now) text left)
  pub complete : (command : Command) → IsNamed words command → IsTold source.bytes_before → IfSome source.bytes_before (IsGood command)
      → ¬ Failed source → ¬ Failed sink → (result ≡ status.Done) ⊎ (result ≡ status.WantMemory)
  -- a file is bad exactly where its first bad block is within what the command reads; it is noted, and the sink has what is before it
  pub bad_file : result ≡ status.BadFile → (fault : Fault) × (block : ℕ) × (offset : ℕ)
      × Runs words source.bytes_before source.bytes_now sink.bytes_before sink.bytes_now (Err (stop.BadFile fault block offset))
      × Appends notes.bytes_before notes.bytes_now (bad_line fault block offset)
  pub bad_exactly : (command : Command) → (fault : Fault) → (block : ℕ) → (offset : ℕ)
      → IsNamed words command → IsTold source.bytes_before → IfSome source.bytes_before (IsBad command fault block offset)
      → ¬ Failed source → ¬ Failed sink → ¬ Failed notes
      → (result ≡ status.WantMemory) ⊎ ((result ≡ status.BadFile) × Appends notes.bytes_before notes.bytes_now (bad_line fault block offset))
  -- a frame isn't there exactly where the file, which was read to its end, ends cleanly without it; the frames that are there are noted
  pub no_such_frame : result ≡ status.NoSuchFrame → (first : ℕ) × (last : ℕ)
      × Runs words source.bytes_before source.bytes_now sink.bytes_before sink.bytes_now (Err (stop.NoSuchFrame first last))
      × Appends notes.bytes_before notes.bytes_now (no_such_frame_line first last)
  pub lacks_exactly : (command : Command) → (first : ℕ) → (last : ℕ)
      → IsNamed words command → IsTold source.bytes_before → IfSome source.bytes_before (LacksFrame command first last)
      → ¬ Failed source → ¬ Failed sink → ¬ Failed notes
      → (result ≡ status.WantMemory) ⊎ ((result ≡ status.NoSuchFrame) × Appends notes.bytes_before notes.bytes_now (no_such_frame_line first last))
  -- a text is no listing exactly where it has a first bad line, which is noted, and the sink has the bytes of the lines before it
  pub bad_listing : result ≡ status.BadListing → (line : ℕ)
      × Runs words source.bytes_before source.bytes_now sink.bytes_before sink.bytes_now (Err (stop.BadListing line))
      × Appends notes.bytes_before notes.bytes_now (bad_listing_line line)
  pub listing_exactly : (command : Command) → (line : ℕ)
      → IsNamed words command → IsTold source.bytes_before → IfSome source.bytes_before (IsBadLine command line)
      → ¬ Failed source → ¬ Failed sink → ¬ Failed notes
      → (result ≡ status.WantMemory) ⊎ ((result ≡ status.BadListing) × Appends notes.bytes_before notes.bytes_now (bad_listing_line line))
  -- a fault of the source or of a sink is one that was counted in this call; after a failed read the sink has what is before the place
  -- where reading stopped, and nothing there stops the command
  pub read_fault : result ≡ status.ReadFault → Failed source
      × Runs words source.bytes_before source.bytes_now sink.bytes_before sink.bytes_now (Err stop.ReadFault)
      × Appends notes.bytes_before notes.bytes_now read_fault_line
  -- after a failed write of its answer the sink has a prefix of what the command writes; `lean` writes nothing before it found the range in the file
  pub write_fault : result ≡ status.WriteFault
      → (Failed sink × Runs words source.bytes_before source.bytes_now sink.bytes_before sink.bytes_now (Err stop.WriteFault)) ⊎ Failed notes
  pub later : (source.faults_before ≤ source.faults_now) × (sink.faults_before ≤ sink.faults_now) × (notes.faults_before ≤ notes.faults_now)
  -- in any case the sink took a prefix of what the command writes, and the notes a prefix of the line that there was a reason for
  pub front : (sink.now ≡ sink.before) ⊎ WritesFront words source.bytes_before source.bytes_now sink.bytes_before sink.bytes_now
  pub noted : (notes.now ≡ notes.before) ⊎ ((line : List ℕ) × IsNote words source.bytes_before source.bytes_now
      sink.bytes_before sink.bytes_now (record { before = source.faults_before; now = source.faults_now }) line
      × AppendsPart notes.bytes_before notes.bytes_now line)
  pub no_memory : result ≡ status.WantMemory → notes.now ≡ notes.before
