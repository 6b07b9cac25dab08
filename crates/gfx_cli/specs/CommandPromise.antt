-- What is promised of a command that runs, before its stop is told.
use Rattle.std.specs.Prelude.{◌≡◌, ◌≤◌, ℕ, List, Option, Result, Err, OnOk, IfErr, ⊤}
use Rattle.std.specs.Io.KnownBytes.{Appends}
use Rattle.gfx_io.specs.Told.{IfTold}
use Rattle.gfx_trim.specs.Keeps.{Keeps}
use Rattle.gfx_lean.specs.Leans.{Keeps as LeanKeeps}
use Rattle.gfx_upgrade.specs.Laws.{TookSame}
use Rattle.gfx_list.specs.Lists.{TookListing}
use Rattle.gfx_list.specs.Unlists.{IsUnlisted}
use Rattle.gfx_words.specs.declared.command.Command.{Command}
use Rattle.gfx_words.specs.declared.command.Command.TheVariants.{Trim, Lean, Upgrade, List as Lists, Unlist as Unlists}
use Rattle.gfx_cli.specs.declared.stop.Stop.{Stop}
use Rattle.gfx_cli.specs.declared.stop.Stop.TheVariants as stop
use Rattle.gfx_cli.specs.Commands.{Reads}
use Rattle.gfx_cli.specs.Ends.{Ends, EndsAlone}
use Rattle.gfx_cli.specs.Run.{MayStop}
use Rattle.gfx_cli.specs.Seen.{Failed, Seen}

-- what the file means that the sink took of one that has all that the command asks for
abbrev pub Shows : Command → Option (List ℕ) → Option (List ℕ) → List ℕ → List ℕ → Type 0
Shows (Trim r) before after bytes left = Keeps r.first r.last before after bytes
Shows (Lean r) before after bytes left = LeanKeeps r.first r.last before after bytes
Shows Upgrade before after bytes left = TookSame before after bytes
Shows Lists before after bytes left = TookListing before after bytes
Shows Unlists before after text left = IsUnlisted (Appends before after) text left
Shows _ before after bytes left = ⊤

-- the command ended so, and a fault of the source or of the sink is one that was counted
pub record KeepsCommand {S K : Type 0} (c : Command) (source : Seen S) (sink : Seen K) (end : Result Unit Stop) : Type 0 where
  pub ends : IfTold source.bytes_before source.bytes_now (Ends c sink.bytes_before sink.bytes_now end)
  pub shows : IfTold source.bytes_before source.bytes_now (λ bytes left. OnOk end (Shows c sink.bytes_before sink.bytes_now bytes left))
  -- a command that reads no file leaves the source alone, and this is promised of any source
  pub unread : ¬ Reads c → source.now ≡ source.before
  pub alone : ¬ Reads c → EndsAlone c sink.bytes_before sink.bytes_now end
  pub may : IfErr end (MayStop c)
  pub read_fault : end ≡ Err stop.ReadFault → Failed source
  pub write_fault : end ≡ Err stop.WriteFault → Failed sink
  pub later : (source.faults_before ≤ source.faults_now) × (sink.faults_before ≤ sink.faults_now)
