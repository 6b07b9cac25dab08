-- What is promised of a command follows from what the function answers that does its work.
use Rattle.std.proofs.Common.{◌≡◌, ◌≤◌, ℕ, List, [], Option, Result, Ok, Err, refl, sym, ap, subst, arith}
use Rattle.std.specs.Prelude.{OnOk, IfErr}
use Rattle.std.specs.Io.KnownBytes.{Appends}
use Rattle.gfx_io.specs.Pieces.{AppendsPart}
use Rattle.gfx_io.specs.Told.{IfTold}
use Rattle.gfx_decode.proofs.Told.{told_if}
use Rattle.gfx_words.specs.declared.command.Command.{Command}
use Rattle.gfx_words.specs.declared.command.Command.TheVariants.{Info}
use Rattle.gfx_cli.specs.CommandPromise.{KeepsCommand, Shows}
use Rattle.gfx_cli.specs.Commands.{IsGood, Leaves, Reads, Writes}
use Rattle.gfx_cli.specs.Ends.{Ends, Stops}
use Rattle.gfx_cli.specs.Run.{MayStop}
use Rattle.gfx_cli.specs.Seen.{Failed, Seen}
use Rattle.gfx_cli.specs.Stop.{IsUnwritten}
use Rattle.gfx_cli.specs.declared.stop.Stop.{Stop}
use Rattle.gfx_cli.specs.declared.stop.Stop.TheVariants as stop
use Rattle.gfx_cli.proofs.Ending.{text_ends, told_same}

-- a source, a sink or notes that nothing touched
abbrev pub untouched : {T : Type 0} → T → Option (List ℕ) → ℕ → Seen T
untouched it bytes faults = record { before = it; now = it; bytes_before = bytes; bytes_now = bytes; faults_before = faults; faults_now = faults }

-- neither count of faults fell
abbrev IsLater : {S K : Type 0} → Seen S → Seen K → Type 0
IsLater source sink = (source.faults_before ≤ source.faults_now) × (sink.faults_before ≤ sink.faults_now)

-- the answer with a fault
abbrev pub failed : {F : Type 0} → F → Result Unit F
failed why = Err why

-- ---- commands that read files

-- a command that did its work
pub did : {S K : Type 0} (c : Command) (source : Seen S) (sink : Seen K) → Reads c
    → IfTold source.bytes_before source.bytes_now (Ends c sink.bytes_before sink.bytes_now (Ok tt))
    → IfTold source.bytes_before source.bytes_now (λ bytes left. Shows c sink.bytes_before sink.bytes_now bytes left)
    → IsLater source sink → KeepsCommand c source sink (Ok tt)
did c source sink reads ends shows later =
    record {
      ends = ends;
      shows = shows;
      unread = λ none. absurd (none reads);
      alone = λ none. absurd (none reads);
      may = tt;
      read_fault = λ e. absurd cc;
      write_fault = λ e. absurd cc;
      later = later;
    }

-- a command that was stopped
pub was_stopped : {S K : Type 0} (c : Command) (source : Seen S) (sink : Seen K) (why : Stop) → Reads c
    → IfTold source.bytes_before source.bytes_now (Ends c sink.bytes_before sink.bytes_now (Err why)) → MayStop c why
    → (why ≡ stop.ReadFault → Failed source) → (why ≡ stop.WriteFault → Failed sink) → IsLater source sink → KeepsCommand c source sink (Err why)
was_stopped c source sink why reads stops may read write later =
    record {
      ends = stops;
      shows = told_if _ _ (Ends c sink.bytes_before sink.bytes_now (Err why)) _ stops (λ all rest is. tt);
      unread = λ none. absurd (none reads);
      alone = λ none. absurd (none reads);
      may = may;
      read_fault = λ e. read cc;
      write_fault = λ e. write cc;
      later = later;
    }

-- by a fault of what does its work
pub fault_stopped : {S K F : Type 0} (of : F → Stop) (read_fault sink_fault : F) → ((why : F) → of why ≡ stop.ReadFault → why ≡ read_fault) → ((why : F) → of why ≡ stop.WriteFault → why ≡ sink_fault)
    → (c : Command) (source : Seen S) (sink : Seen K) (why : F) (end : Result Unit Stop) (Answer : List ℕ → List ℕ → Type 0)
    → end ≡ Err (of why) → Reads c → MayStop c (of why) → IfTold source.bytes_before source.bytes_now Answer
    → ((all rest : List ℕ) → Answer all rest → Stops c sink.bytes_before sink.bytes_now (of why) all rest)
    → (failed why ≡ Err read_fault → Failed source) → (failed why ≡ Err sink_fault → Failed sink) → IsLater source sink → KeepsCommand c source sink end
fault_stopped of read_fault sink_fault read_of sink_of c source sink why end Answer is reads may told stops read write later =
    subst (KeepsCommand c source sink) (sym is)
    (was_stopped c source sink (of why) reads (told_if _ _ Answer _ told stops) may (λ e. read (ap Err (read_of why e))) (λ e. write (ap Err (sink_of why e))) later)

-- `info`, which means nothing by what it leaves
pub info_kept : {S K : Type 0} (source : Seen S) (sink : Seen K) (end : Result Unit Stop)
    → IfTold source.bytes_before source.bytes_now (Ends Info sink.bytes_before sink.bytes_now end) → IfErr end (MayStop Info)
    → (end ≡ Err stop.ReadFault → Failed source) → (end ≡ Err stop.WriteFault → Failed sink) → IsLater source sink → KeepsCommand Info source sink end
info_kept source sink (Ok done) ends may read write later =
    did Info source sink tt ends (told_if _ _ (Ends Info sink.bytes_before sink.bytes_now (Ok tt)) _ ends (λ all rest is. tt)) later
info_kept source sink (Err why) ends may read write later = was_stopped Info source sink why tt ends may (λ e. read (ap Err e)) (λ e. write (ap Err e)) later

-- ---- commands that write a text without a file

-- the text of such a command, whatever the source is
pub record IsText (c : Command) (text : List ℕ) : Type 1 where
  pub good : (bytes : List ℕ) → IsGood c bytes
  pub leaves : (bytes : List ℕ) → Leaves c bytes bytes
  pub writes : (Took : List ℕ → Type 0) (bytes : List ℕ) → Took text → Writes c Took bytes
  pub shows : (before after : Option (List ℕ)) (bytes left : List ℕ) → Shows c before after bytes left

pub text_kept : {S K : Type 0} (c : Command) (text : List ℕ) (source : S) (left : Option (List ℕ)) (faults : ℕ) (sink : Seen K) (end : Result Unit Stop) → IsText c text
    → OnOk end (Appends sink.bytes_before sink.bytes_now text) → AppendsPart sink.bytes_before sink.bytes_now text → IfErr end IsUnwritten
    → (end ≡ Err stop.WriteFault → Failed sink) → sink.faults_before ≤ sink.faults_now → KeepsCommand c (untouched source left faults) sink end
text_kept c text source left faults sink end is whole part why write later =
    record {
      ends = told_same left (Ends c sink.bytes_before sink.bytes_now end)
          (λ bytes. text_ends c sink.bytes_before sink.bytes_now end text bytes (is.good bytes) (is.leaves bytes) (λ Took took. is.writes Took bytes took) whole part why);
      shows = told_same left _ (λ bytes. shown end bytes);
      unread = λ none. refl;
      alone = λ none. record { text = text_is end whole; front = is.writes (AppendsPart sink.bytes_before sink.bytes_now) [] part; why = why };
      may = may end why;
      read_fault = λ e. absurd (subst (λ z. IfErr z IsUnwritten) e why);
      write_fault = write;
      later = (omega arith, later);
    }
  where
    shown : (r : Result Unit Stop) (bytes : List ℕ) → OnOk r (Shows c sink.bytes_before sink.bytes_now bytes bytes)
    shown (Ok done) bytes = is.shows sink.bytes_before sink.bytes_now bytes bytes
    shown (Err fault) bytes = tt

    text_is : (r : Result Unit Stop) → OnOk r (Appends sink.bytes_before sink.bytes_now text) → OnOk r (Writes c (Appends sink.bytes_before sink.bytes_now) [])
    text_is (Ok done) took = is.writes (Appends sink.bytes_before sink.bytes_now) [] took
    text_is (Err fault) took = tt

    may : (r : Result Unit Stop) → IfErr r IsUnwritten → IfErr r (MayStop c)
    may (Ok done) why = tt
    may (Err (stop.BadFile fault block offset)) why = absurd why
    may (Err (stop.NoSuchFrame first last)) why = absurd why
    may (Err stop.ReadFault) why = absurd why
    may (Err stop.WriteFault) why = tt
    may (Err stop.WantMemory) why = tt
    may (Err (stop.BadListing line)) why = absurd why
