-- What a call and a batch tell the pass that made it.
use Rattle.std.specs.Prelude.{◌≡◌, ◌≢◌, ℕ, ◌+◌, ◌<◌, ◌≤◌, true, List, ◌++◌, length, take, Result, Ok, Err}
use mathlib.Core.List.{IsPrefix}
use Rattle.gfx_types.specs.declared.names.Fault.TheVariants.{IdTaken}
use Rattle.gfx_model.specs.Events.{Event}
use Rattle.gfx_model.specs.Checks.{is_distinct}
use Rattle.gfx_script_model.specs.Runs.{Entry}
use Rattle.gfx_seats.specs.declared.stage.Stage.TheVariants.{Idle}
use Rattle.gfx_seats.specs.declared.hand.Hand.{Hand}
use Rattle.gfx_seats.specs.Entries.{times, created}
use Rattle.gfx_capture.specs.declared.answer.Receipt.{Receipt}
use Rattle.gfx_capture.specs.declared.answer.AppendFault.{AppendFault}
use Rattle.gfx_capture.specs.declared.answer.AppendFault.TheVariants as append
use Rattle.gfx_capture.specs.Entry.{entries_under, named_ids, entry_ids}
use Rattle.gfx_capture.specs.Log.{IsSound}
use Rattle.gfx_capture.specs.Append.{IsFaulty, IsFull, IsAt}

-- a pass keeps its thread, its minor version and its ids, has no turn, and has seen and knows of no less than before
pub record Keeps (h h' : Hand Entry) : Type 0 where
  pub thread : h'.thread ≡ h.thread
  pub kind : h'.kind ≡ h.kind
  pub drawn : h'.drawn ≡ h.drawn
  pub stage : h'.stage ≡ Idle
  pub before : IsPrefix h.seen h'.seen
  pub known : h.known ≤ h'.known

-- what the pass has seen ends with the first n events under its thread, and of its own entries just these are new
pub record Grew (h : Hand Entry) (events : List Event) (n : ℕ) (h' : Hand Entry) : Type 0 where
  pub log : List Entry
  pub seen : h'.seen ≡ log ++ entries_under h.thread (take n events)
  pub mine : h'.mine ≡ h.mine ++ entries_under h.thread (take n events)

-- they follow `from` entries, no fewer than the pass knew of, and what it has seen is a log
pub record IsPlaced (h : Hand Entry) (events : List Event) (from n : ℕ) (h' : Hand Entry) : Type 0 where
  pub grew : Grew h events n h'
  pub known : h.known ≤ from
  pub place : length h'.seen ≡ from + n
  pub sound : IsSound h.kind h'.seen

-- what a batch of events tells: its answer is that of a log, which the pass has seen whole then
abbrev pub Tells : Hand Entry → List Event → Result Receipt AppendFault → Hand Entry → Type 0
Tells h events (Ok r) h' = (r.count ≡ length events) × IsPlaced h events r.from r.count h'
Tells h events (Err (append.Refused f at done)) h' =
    (done < length events) × ((from : ℕ) × IsPlaced h events from done h') × (at ≡ length h'.seen)
    × IsAt events done (λ event. IsFaulty h.kind h.thread h'.seen event f)
Tells h events (Err (append.LogFull l wanted done)) h' =
    (done < length events) × ((from : ℕ) × IsPlaced h events from done h')
    × IsAt events done (λ event. IsFull h.kind h.thread h'.seen event l wanted)
Tells h events (Err (append.WantMemory done)) h' = (done < length events) × Grew h events done h'

-- the ids that events create differ, and no entry of the pass creates one of them
pub record AreNew (h : Hand Entry) (events : List Event) : Type 0 where
  pub distinct : is_distinct (named_ids events) ≡ true
  pub unmade : (x : ℕ) → 0 < times x (named_ids events) → created entry_ids x h.mine ≡ 0

-- it is not refused because an id is taken
abbrev pub IsNotTaken : Result Receipt AppendFault → Type 0
IsNotTaken (Err (append.Refused f at done)) = f ≢ IdTaken
IsNotTaken _ = Unit {0}
