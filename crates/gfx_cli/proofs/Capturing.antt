-- What is promised of words that ask for a recording follows from how it ended, and from what was told of it.
use Rattle.std.proofs.Common.{◌≡◌, ◌⊎◌, inl, inr, ◌≤◌, ℕ, List, Option, Ok, Err, ap, refl, subst, sym, ◌∙◌, arith}
use Rattle.std.specs.Prelude.{IfSome}
use Rattle.std.specs.Io.KnownBytes.{Appends}
use Rattle.gfx_io.specs.Pieces.{AppendsPart}
use Rattle.gfx_recording.specs.Records.{IsSafeText, Leaves}
use Rattle.gfx_recording.specs.declared.fault.RecordingFault.{RecordingFault}
use Rattle.gfx_recording.specs.declared.fault.RecordingFault.TheVariants as why
use Rattle.gfx_words.specs.declared.recording.Recording.{Recording}
use Rattle.gfx_cli.specs.declared.status.Status.{Status}
use Rattle.gfx_cli.specs.declared.status.Status.TheVariants as status
use Rattle.gfx_cli.specs.CapturePromise.{KeepsCapture, KeepsRecording}
use Rattle.gfx_cli.specs.Captures.{Ends, IsFault, line_of, status_of}
use Rattle.gfx_cli.specs.Commands.{asked_by}
use Rattle.gfx_cli.specs.CaptureRun.{Captures, usage_noted, fault_noted}
use Rattle.gfx_cli.specs.Seen.{Failed, Seen}
use Rattle.gfx_cli.specs.Text.{usage_line}
use Rattle.gfx_cli.specs.Words.{IsAsked, IsOnlyAsked, IsUnasked}
use Rattle.gfx_cli.proofs.CaptureEnds.{bad_ends, front_told, leaves_taken, not_run}
use Rattle.gfx_cli.proofs.CaptureTelling.{Told, fault_exactly, of_captures, told_of, told_at, unstopped_at, write_cause}
use Rattle.gfx_cli.proofs.Deciding.{told_at as at_told}
use Rattle.gfx_cli.proofs.Keeping.{untouched}
use Rattle.gfx_cli.proofs.Telling.{IsTelling, status_tells}

-- the words ask for this recording and no other
pub record AskFor (words : List (List ℕ)) (r : Recording) : Type 0 where
  pub asked : IsAsked words r
  pub only : IsOnlyAsked words r

-- words that ask for no recording, and the usage line or a prefix of it
pub unasked : {S K N : Type 0} (words : List (List ℕ)) (source : S) (read : Option (List ℕ)) (reads : ℕ) (sink : K) (taken : Option (List ℕ)) (writes : ℕ) (notes : Seen N) (result : Status)
    → IsUnasked words → ((result ≡ status.Usage) × Appends notes.bytes_before notes.bytes_now usage_line) ⊎ ((result ≡ status.WriteFault) × Failed notes)
    → AppendsPart notes.bytes_before notes.bytes_now usage_line → notes.faults_before ≤ notes.faults_now
    → KeepsCapture words (untouched source read reads) (untouched sink taken writes) notes result
unasked words source read reads sink taken writes notes result none ends front later =
    record {
      statuses = elim ends [ inl is ↦ rw is.0 tt | inr is ↦ rw is.0 tt ];
      usage = λ e. (none, elim ends [ inl is ↦ is.1 | inr is ↦ absurd (let f : status.WriteFault ≡ status.Usage = sym is.0 ∙ e in cc) ]);
      refused = λ un. (elim ends [ inl is ↦ inl is.0 | inr is ↦ inr is.0 ], refl, refl);
      done = λ e. other e (λ f. absurd cc) (λ f. absurd cc);
      complete = λ r asked. absurd (none r asked);
      bad_script = λ e. other e (λ f. absurd cc) (λ f. absurd cc);
      bad_exactly = λ r line kind asked. absurd (none r asked);
      call_refused = λ e. other e (λ f. absurd cc) (λ f. absurd cc);
      log_full = λ e. other e (λ f. absurd cc) (λ f. absurd cc);
      no_such_frame = λ e. other e (λ f. absurd cc) (λ f. absurd cc);
      read_fault = λ e. other e (λ f. absurd cc) (λ f. absurd cc);
      unwritten = λ e. refl;
      write_fault = λ e. inr (elim ends [ inl is ↦ absurd (let f : status.Usage ≡ status.WriteFault = sym is.0 ∙ e in cc) | inr is ↦ is.1 ]);
      later = (omega arith, omega arith, later);
      front = λ e. inl refl;
      noted = inr (usage_line, usage_noted none, front);
      no_memory = λ e. other e (λ f. absurd cc) (λ f. absurd cc);
    }
  where
    other : {P : Type 0} {found : Status} → result ≡ found → ¬ (status.Usage ≡ found) → ¬ (status.WriteFault ≡ found) → P
    other is usage write = elim ends [ inl it ↦ absurd (usage (sym it.0 ∙ is)) | inr it ↦ absurd (write (sym it.0 ∙ is)) ]

-- every call was accepted, and what was asked for was written
pub recorded : {S K N : Type 0} (words : List (List ℕ)) (r : Recording) (source : Seen S) (sink : Seen K) (notes : N) (noted : Option (List ℕ)) (faults : ℕ)
    → AskFor words r → KeepsRecording r source sink (Ok tt) → KeepsCapture words source sink (untouched notes noted faults) status.Done
recorded words r source sink notes noted faults ask kept =
    record {
      statuses = tt;
      usage = λ e. absurd cc;
      refused = λ none. absurd (none r ask.asked);
      done = λ e. (record { recording = r; asked = ask.asked; ends = kept.ends }, refl);
      complete = λ other asked told safe reads writes unnoted. tt;
      bad_script = λ e. absurd cc;
      bad_exactly = λ other line kind asked told bad reads writes unnoted.
          let (all, rest, fault, run) = at_told source.bytes_before source.bytes_now (IsFault line kind) (Ends r sink.bytes_before sink.bytes_now (Ok tt)) told bad kept.ends in
          absurd (not_run r.gathers _ line kind all rest fault run);
      call_refused = λ e. absurd cc;
      log_full = λ e. absurd cc;
      no_such_frame = λ e. absurd cc;
      read_fault = λ e. absurd cc;
      unwritten = λ e. elim e [ inl f ↦ absurd cc | inr f ↦ absurd cc ];
      write_fault = λ e. absurd cc;
      later = (kept.later.0, kept.later.1, omega arith);
      front = λ not. absurd (not refl);
      noted = inl refl;
      no_memory = λ e. absurd cc;
    }

-- a recording that was stopped, and was told of
pub unrecorded : {S K N : Type 0} (words : List (List ℕ)) (r : Recording) (source : Seen S) (sink : Seen K) (notes : Seen N) (fault : RecordingFault) (result : Status)
    → AskFor words r → KeepsRecording r source sink (Err fault) → (sink.now ≡ sink.before → sink.bytes_now ≡ sink.bytes_before) → IsTelling (status_of fault) (line_of fault) (fault ≡ why.WantMemory) notes result
    → KeepsCapture words source sink notes result
unrecorded words r source sink notes fault result ask kept same_bytes told =
    record {
      statuses = of_captures fault result _ _ _ told.ends;
      usage = λ is. absurd (of_status status.Usage is (λ e. absurd cc) (λ e. absurd cc));
      refused = λ none. absurd (none r ask.asked);
      done = λ is. absurd (of_status status.Done is (λ e. absurd cc) (λ e. absurd cc));
      complete = λ other asked known safe reads writes unnoted.
          let same = ask.only other asked in
          unstopped_at fault result _ _ _ told.ends unnoted (kept.complete known (subst (λ q. IfSome source.bytes_before (IsSafeText q.gathers (asked_by q.frames))) same safe) reads writes);
      bad_script = λ is. let (line, kind, both) = tells status.BadScript is (λ e. absurd cc) (λ e. absurd cc) in (line, kind, both.0, both.1);
      bad_exactly = λ other line kind asked known bad reads writes unnoted.
          let (all, rest, wrong, ends) = at_told source.bytes_before source.bytes_now (IsFault line kind) (Ends r sink.bytes_before sink.bytes_now (Err fault)) known bad kept.ends in
          fault_exactly Noted fault (why.BadScript line kind) result _ _ told.ends told.silent unnoted
          (bad_ends r sink.bytes_before sink.bytes_now fault line kind all rest wrong ends (λ e. reads (fails_read e)) (λ e. writes (fails_write e)));
      call_refused = λ is. let (line, rule, at, both) = tells status.CallRefused is (λ e. absurd cc) (λ e. absurd cc) in (line, rule, at, both.0, both.1);
      log_full = λ is. let (long, wanted, both) = tells status.LogFull is (λ e. absurd cc) (λ e. absurd cc) in (long, wanted, both.0, both.1);
      no_such_frame = λ is. let (first, last, both) = tells status.NoSuchFrame is (λ e. absurd cc) (λ e. absurd cc) in (first, last, both.0, both.1);
      read_fault = λ is.
          let by = told_of (λ f. fault ≡ f) Noted fault result status.ReadFault _ _ told.ends is (λ e. absurd cc) (λ e. absurd cc) refl in
          (fails_read by.0, by.1);
      unwritten = λ is.
          elim is [
            | inl bad ↦ let (line, kind, same) = left status.BadScript bad (λ e. absurd cc) (λ e. absurd cc) in same
            | inr unread ↦ left status.ReadFault unread (λ e. absurd cc) (λ e. absurd cc)
          ];
      write_fault = λ is. write_cause fault result _ _ _ _ told.ends is fails_write;
      later = (kept.later.0, kept.later.1, told.later);
      front = λ not.
          elim (front_told r sink.bytes_before sink.bytes_now source.bytes_before source.bytes_now fault kept.ends
          (leaves_taken fault _ (sink.bytes_now ≡ sink.bytes_before) same_bytes kept.leaves)) [
            | inl same ↦ inl same
            | inr front ↦ inr (record { recording = r; asked = ask.asked; front = front })
          ];
      noted = inr (line_of fault, fault_noted fault ran fails_read, told.front);
      no_memory = told.no_memory;
    }
  where
    Ran : RecordingFault → Type 0
    Ran f = Captures words source.bytes_before source.bytes_now sink.bytes_before sink.bytes_now (Err f)

    Noted : List ℕ → Type 0
    Noted = Appends notes.bytes_before notes.bytes_now

    ran : Ran fault
    ran = record { recording = r; asked = ask.asked; ends = kept.ends }

    fails_read : fault ≡ why.ReadFault → Failed source
    fails_read e = kept.read_fault (ap Err e)

    fails_write : fault ≡ why.SinkFault → Failed sink
    fails_write e = kept.sink_fault (ap Err e)

    tells : (found : Status) → result ≡ found → ¬ (found ≡ status.WantMemory) → ¬ (found ≡ status.WriteFault) → Told (λ f. Ran f × Noted (line_of f)) found
    tells found is memory written = told_of Ran Noted fault result found _ _ told.ends is memory written ran

    of_status : (found : Status) → result ≡ found → ¬ (found ≡ status.WantMemory) → ¬ (found ≡ status.WriteFault) → Told (λ f. status_of f ≡ found) found
    of_status found is memory written =
        let same = (status_tells result (status_of fault) found (Noted (line_of fault)) _ _ told.ends is memory written).0 in
        told_at (λ f. status_of f ≡ found) fault found same same

    left : (found : Status) → result ≡ found → ¬ (found ≡ status.WantMemory) → ¬ (found ≡ status.WriteFault) → Told (λ f. Leaves (Err f) (sink.now ≡ sink.before)) found
    left found is memory written =
        told_at (λ f. Leaves (Err f) (sink.now ≡ sink.before)) fault found (status_tells result (status_of fault) found (Noted (line_of fault)) _ _ told.ends is memory written).0 kept.leaves
