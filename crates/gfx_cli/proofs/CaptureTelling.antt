-- What a status tells of the fault behind it.
use Rattle.std.proofs.Common.{◌≡◌, ◌≢◌, ◌⊎◌, inl, inr, ℕ, List, Err, refl, sym, subst, ◌∙◌}
use Rattle.gfx_types.specs.declared.names.Fault.{Fault}
use Rattle.gfx_script.specs.declared.kind.ScriptKind.{ScriptKind}
use Rattle.gfx_recording.specs.declared.fault.RecordingFault.{RecordingFault}
use Rattle.gfx_recording.specs.declared.fault.RecordingFault.TheVariants.{BadScript, CallRefused, LogFull, NoSuchFrame, ReadFault, SinkFault, WantMemory}
use Rattle.gfx_cli.specs.declared.status.Status.{Status}
use Rattle.gfx_cli.specs.declared.status.Status.TheVariants as status
use Rattle.gfx_recording.specs.Records.{IsUnstopped}
use Rattle.gfx_cli.specs.Captures.{IsUnstoppedAt, line_of, status_of}
use Rattle.gfx_cli.specs.CaptureRun.{IsOfCaptures}
use Rattle.gfx_cli.proofs.Telling.{IsToldBy, status_tells, told_or_wanting}

-- P of the fault that has the status
abbrev pub Told : (RecordingFault → Type 0) → Status → Type 0
Told P status.Done = ⊥
Told P status.WantMemory = P WantMemory
Told P status.Usage = ⊥
Told P status.BadFile = ⊥
Told P status.NoSuchFrame = (first : ℕ) × (last : ℕ) × P (NoSuchFrame first last)
Told P status.ReadFault = P ReadFault
Told P status.WriteFault = P SinkFault
Told P status.BadScript = (line : ℕ) × (kind : ScriptKind) × P (BadScript line kind)
Told P status.CallRefused = (line : ℕ) × (fault : Fault) × (at : ℕ) × P (CallRefused line fault at)
Told P status.LogFull = (long : ℕ) × (wanted : ℕ) × P (LogFull long wanted)
Told P status.BadListing = ⊥

told : (P : RecordingFault → Type 0) (why : RecordingFault) → P why → Told P (status_of why)
told P (BadScript line kind) is = (line, kind, is)
told P (CallRefused line fault at) is = (line, fault, at, is)
told P (LogFull long wanted) is = (long, wanted, is)
told P (NoSuchFrame first last) is = (first, last, is)
told P ReadFault is = is
told P SinkFault is = is
told P WantMemory is = is

-- what holds of a fault holds of the one that its status tells
pub told_at : (P : RecordingFault → Type 0) (why : RecordingFault) (found : Status) → status_of why ≡ found → P why → Told P found
told_at P why found is so = subst (Told P) is (told P why so)

-- a status of its own tells of the fault, and that its line was written
pub told_of : (P : RecordingFault → Type 0) (Line : List ℕ → Type 0) (why : RecordingFault) (result found : Status) (same failed : Type 0)
    → IsToldBy result (status_of why) (Line (line_of why)) same failed → result ≡ found → found ≢ status.WantMemory → found ≢ status.WriteFault → P why
    → Told (λ f. P f × Line (line_of f)) found
told_of P Line why result found same failed is so memory written holds =
    let by = status_tells result (status_of why) found (Line (line_of why)) same failed is so memory written in
    told_at (λ f. P f × Line (line_of f)) why found by.0 (holds, by.1)

-- a failed write was one of the log, or one of the line
pub write_cause : (why : RecordingFault) (result : Status) (line same failed cause : Type 0) → IsToldBy result (status_of why) line same failed → result ≡ status.WriteFault → (why ≡ SinkFault → cause) → cause ⊎ failed
write_cause why result line same failed cause (inl is) so own = inl (own (told_at (λ f. why ≡ f) why status.WriteFault (sym is.0 ∙ so) refl))
write_cause why result line same failed cause (inr (inl is)) so own = let e : status.WantMemory ≡ status.WriteFault = sym is.0 ∙ so in absurd cc
write_cause why result line same failed cause (inr (inr is)) so own = inr is.1

of_status : (why : RecordingFault) → IsOfCaptures (status_of why)
of_status (BadScript line kind) = tt
of_status (CallRefused line fault at) = tt
of_status (LogFull long wanted) = tt
of_status (NoSuchFrame first last) = tt
of_status ReadFault = tt
of_status SinkFault = tt
of_status WantMemory = tt

pub of_captures : (why : RecordingFault) (result : Status) (line same failed : Type 0) → IsToldBy result (status_of why) line same failed → IsOfCaptures result
of_captures why result line same failed (inl is) = subst IsOfCaptures (sym is.0) (of_status why)
of_captures why result line same failed (inr (inl is)) = subst IsOfCaptures (sym is.0) tt
of_captures why result line same failed (inr (inr is)) = subst IsOfCaptures (sym is.0) tt

-- where no write failed, a fault is a lack of memory or one that is told
pub fault_exactly : (Line : List ℕ → Type 0) (why wanted : RecordingFault) (result : Status) (same failed : Type 0) → IsToldBy result (status_of why) (Line (line_of why)) same failed
    → (why ≡ WantMemory → result ≡ status.WantMemory) → ¬ failed → (why ≡ WantMemory) ⊎ (why ≡ wanted) → (result ≡ status.WantMemory) ⊎ ((result ≡ status_of wanted) × Line (line_of wanted))
fault_exactly Line why wanted result same failed is silent none (inl want) = inl (silent want)
fault_exactly Line why wanted result same failed is silent none (inr same_as) =
    told_or_wanting result (status_of wanted) (Line (line_of wanted)) same failed (subst (λ f. IsToldBy result (status_of f) (Line (line_of f)) same failed) same_as is) none

-- what does not stop a recording of a safe script has such a status
unstopped : (why : RecordingFault) → IsUnstopped (Err why) → IsUnstoppedAt (status_of why)
unstopped WantMemory is = tt
unstopped (NoSuchFrame first last) is = absurd is
unstopped (BadScript line kind) is = absurd is
unstopped (CallRefused line fault at) is = absurd is
unstopped (LogFull long wanted) is = absurd is
unstopped ReadFault is = absurd is
unstopped SinkFault is = absurd is

pub unstopped_at : (why : RecordingFault) (result : Status) (line same failed : Type 0) → IsToldBy result (status_of why) line same failed → ¬ failed
    → IsUnstopped (Err why) → IsUnstoppedAt result
unstopped_at why result line same failed is none so =
    elim (told_or_wanting result (status_of why) line same failed is none) [
      | inl wanting ↦ subst IsUnstoppedAt (sym wanting) tt
      | inr told ↦ subst IsUnstoppedAt (sym told.0) (unstopped why so)
    ]
