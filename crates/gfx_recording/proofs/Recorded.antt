-- What a recording tells by its answer.
use Rattle.std.proofs.Common.{◌≡◌, ◌≤◌, ℕ, Bool, List, [], ◌++◌, length, Option, Result, Ok, Err, Some, None, inl, inr, refl, sym, ap, subst, ◌∙◌, arith, append-nil, length-append}
use Rattle.std.specs.Prelude.{IfSome}
use Rattle.std.specs.Io.KnownBytes.{Consumes, IsAtEnd}
use Rattle.gfx_io.specs.Told.{IfTold, IsTold}
use Rattle.gfx_model.specs.Limits.{max_script}
use Rattle.gfx_script_model.specs.Scripts.{Part, Parsed, Parses, parses, fails}
use Rattle.gfx_script_model.specs.Runs.{Safe}
use Rattle.gfx_script.specs.State.{ParsesAs}
use Rattle.gfx_script_law.specs.Presents.{presents}
use Rattle.gfx_gather.specs.Shown.{shown_phases}
use Rattle.gfx_player.specs.declared.asked.Asked.{Asked}
use Rattle.gfx_player.specs.declared.asked.Asked.TheVariants.{All, Between}
use Rattle.gfx_recorder.specs.Outcomes.{IsDone, IsOutcome}
use Rattle.gfx_recorder.specs.declared.outcome.Outcome.{Outcome}
use Rattle.gfx_recorder.specs.declared.outcome.Outcome.TheVariants as ran
use Rattle.gfx_recording.specs.declared.fault.RecordingFault.{RecordingFault}
use Rattle.gfx_recording.specs.declared.fault.RecordingFault.TheVariants.{BadScript, CallRefused, LogFull, NoSuchFrame, ReadFault, SinkFault, WantMemory}
use Rattle.gfx_recording.specs.Records.{AreFrames, IsRecorded, IsSafeText, IsScriptOf, IsUnstopped, LeftMeans, Records, TellsFrames, Writes}
use Rattle.gfx_recording.proofs.Length.{parses_small}

-- the answers to a text that is no script, and to one that was not read
abbrev pub IsOfText : RecordingFault → Type 0
IsOfText (BadScript line kind) = Unit {0}
IsOfText ReadFault = Unit {0}
IsOfText _ = ⊥

-- what was written is not answered so
written_not : (asked : Asked) (before after : Option (List ℕ)) (outcome : Outcome) (why : RecordingFault) → IsOfText why → Writes asked before after outcome (Err why) → ⊥
written_not All before after (ran.Done log) (BadScript line kind) of w = w
written_not All before after (ran.Done log) ReadFault of w = w
written_not (Between first last) before after (ran.Done log) (BadScript line kind) of w = w
written_not (Between first last) before after (ran.Done log) ReadFault of w = w
written_not asked before after (ran.Refused n f at log) (BadScript line kind) of (inl w) = let e = w.0 in absurd cc
written_not asked before after (ran.Refused n f at log) (BadScript line kind) of (inr w) = let e = w.0 in absurd cc
written_not asked before after (ran.Refused n f at log) ReadFault of (inl w) = let e = w.0 in absurd cc
written_not asked before after (ran.Refused n f at log) ReadFault of (inr w) = let e = w.0 in absurd cc
written_not asked before after (ran.LogFull l n log) (BadScript line kind) of (inl w) = let e = w.0 in absurd cc
written_not asked before after (ran.LogFull l n log) (BadScript line kind) of (inr w) = let e = w.0 in absurd cc
written_not asked before after (ran.LogFull l n log) ReadFault of (inl w) = let e = w.0 in absurd cc
written_not asked before after (ran.LogFull l n log) ReadFault of (inr w) = let e = w.0 in absurd cc
written_not asked before after ran.WantMemory (BadScript line kind) of w = let e = w.0 in absurd cc
written_not asked before after ran.WantMemory ReadFault of w = let e = w.0 in absurd cc
written_not asked before after outcome _ of w = of

pub recorded : (gathers : Bool) (asked : Asked) (before after : Option (List ℕ)) (result : Result Unit RecordingFault) (bytes rest : List ℕ)
    → IsRecorded gathers asked before after result bytes rest → Records gathers asked before after result bytes rest
recorded gathers asked before after (Ok done) bytes rest h = h
recorded gathers asked before after (Err (BadScript line kind)) bytes rest h = absurd (written_not asked before after h.outcome (BadScript line kind) tt h.wrote)
recorded gathers asked before after (Err (CallRefused line fault at)) bytes rest h = h
recorded gathers asked before after (Err (LogFull long wanted)) bytes rest h = h
recorded gathers asked before after (Err (NoSuchFrame first last)) bytes rest h = h
recorded gathers asked before after (Err ReadFault) bytes rest h = tt
recorded gathers asked before after (Err SinkFault) bytes rest h = h
recorded gathers asked before after (Err WantMemory) bytes rest h = inr h

-- frames that are there aren't told to be missing
not_missing : (asked : Asked) (count first last : ℕ) → AreFrames asked count → TellsFrames asked count (Err (NoSuchFrame first last)) → ⊥
not_missing All count first last are tells = tells.0
not_missing (Between low high) count first last are (inl zero, low_is, high_is) = absurd (omega (arith, are.0, zero))
not_missing (Between low high) count first last are (inr behind, low_is, high_is) = absurd (omega (arith, are.1, behind))

-- a run that came to its end and has the frames that are asked for was written, but when out of memory or a failed write
pub done_unstopped : (asked : Asked) (before after : Option (List ℕ)) (count : ℕ) (outcome : Outcome) (result : Result Unit RecordingFault) → IsDone outcome
    → Writes asked before after outcome result → AreFrames asked count → TellsFrames asked count result → (result ≡ Err SinkFault → ⊥) → IsUnstopped result
done_unstopped asked before after count outcome (Ok done) is w are tells sunk = tt
done_unstopped asked before after count outcome (Err SinkFault) is w are tells sunk = absurd (sunk refl)
done_unstopped asked before after count outcome (Err WantMemory) is w are tells sunk = tt
done_unstopped asked before after count outcome (Err (NoSuchFrame first last)) is w are tells sunk = absurd (not_missing asked count first last are tells)
done_unstopped All before after count (ran.Done log) (Err _) is w are tells sunk = w
done_unstopped (Between first last) before after count (ran.Done log) (Err _) is w are tells sunk = w
done_unstopped asked before after count (ran.Refused n f at log) result is w are tells sunk = absurd is
done_unstopped asked before after count (ran.LogFull l n log) result is w are tells sunk = absurd is
done_unstopped asked before after count ran.WantMemory (Err (BadScript line kind)) is w are tells sunk = let e = w.0 in absurd cc
done_unstopped asked before after count ran.WantMemory (Err (CallRefused line fault at)) is w are tells sunk = let e = w.0 in absurd cc
done_unstopped asked before after count ran.WantMemory (Err (LogFull long wanted)) is w are tells sunk = let e = w.0 in absurd cc
done_unstopped asked before after count ran.WantMemory (Err ReadFault) is w are tells sunk = let e = w.0 in absurd cc

-- a source whose text is a script was read whole
pub whole_text : (text bytes rest : List ℕ) (m : ℕ) (phases : List (List Part)) → bytes ≡ text ++ rest → (length text ≤ max_script → rest ≡ []) → Parses bytes (parses m phases)
    → text ≡ bytes
whole_text text bytes rest m phases parts ended is =
    let small : length text ≤ max_script = omega (arith, parses_small bytes m phases is, ap length parts, length-append text rest) in
    sym (parts ∙ ap (λ (z : List ℕ). text ++ z) (ended small) ∙ append-nil text)

-- no call of a script can be refused, and it has the frames that are asked for
abbrev pub SafeFrames : Bool → Asked → Parsed → Type 0
SafeFrames gathers asked (parses m phases) = Safe m (shown_phases gathers phases) × AreFrames asked (presents phases)
SafeFrames gathers asked (fails line kind) = Unit {0}

module _ (gathers : Bool) (asked : Asked) (text bytes rest : List ℕ) (parts : bytes ≡ text ++ rest) (ended : length text ≤ max_script → rest ≡ []) (safe : IsSafeText gathers asked bytes) where
  same : text ≡ bytes
  same = whole_text text bytes rest safe.0 safe.1 parts ended safe.2

  read_so : Parses text (parses safe.0 safe.1)
  read_so = subst (λ (t : List ℕ). Parses t (parses safe.0 safe.1)) (sym same) safe.2

  -- a text that is a script is not refused
  not_refused : (why : RecordingFault) → IsScriptOf text (Err why) → IsUnstopped (Err why)
  not_refused (BadScript line kind) is = let e = is.1 (parses safe.0 safe.1) read_so in absurd cc
  not_refused WantMemory is = tt
  not_refused _ is = absurd is

  -- and the script that is read of it is safe
  safe_script : (m : ℕ) (phases : List (List Part)) → ParsesAs text (parses m phases) → SafeFrames gathers asked (parses m phases)
  safe_script m phases is = subst (SafeFrames gathers asked) (is.1 (parses safe.0 safe.1) read_so) (safe.3, safe.4)

pub text_unstopped : (gathers : Bool) (asked : Asked) (left new : Option (List ℕ)) (text : List ℕ) (why : RecordingFault) → Consumes left new text → (length text ≤ max_script → IsAtEnd new)
    → IsScriptOf text (Err why) → IsTold left → IfSome left (IsSafeText gathers asked) → IsUnstopped (Err why)
text_unstopped gathers asked None new text why reads ended is told safe = absurd told
text_unstopped gathers asked (Some bytes) None text why reads ended is told safe = absurd reads
text_unstopped gathers asked (Some bytes) (Some rest) text why reads ended is told safe = not_refused gathers asked text bytes rest reads ended safe why is

pub script_safe : (gathers : Bool) (asked : Asked) (left new : Option (List ℕ)) (text : List ℕ) (m : ℕ) (phases : List (List Part)) → Consumes left new text → (length text ≤ max_script → IsAtEnd new)
    → ParsesAs text (parses m phases) → IsTold left → IfSome left (IsSafeText gathers asked) → SafeFrames gathers asked (parses m phases)
script_safe gathers asked None new text m phases reads ended is told safe = absurd told
script_safe gathers asked (Some bytes) None text m phases reads ended is told safe = absurd reads
script_safe gathers asked (Some bytes) (Some rest) text m phases reads ended is told safe = safe_script gathers asked text bytes rest reads ended safe m phases is

-- what a run left and what was written of it
pub run_told : (gathers : Bool) (asked : Asked) (left new before after : Option (List ℕ)) (text : List ℕ) (m : ℕ) (phases : List (List Part)) (outcome : Outcome) (result : Result Unit RecordingFault)
    → Consumes left new text → (length text ≤ max_script → IsAtEnd new) → Parses text (parses m phases) → IsOutcome m (shown_phases gathers phases) outcome → LeftMeans outcome → Writes asked before after outcome result
    → TellsFrames asked (presents phases) result → IfTold left new (Records gathers asked before after result)
run_told gathers asked None new before after text m phases outcome result reads ended is ran means wrote frames = tt
run_told gathers asked (Some bytes) None before after text m phases outcome result reads ended is ran means wrote frames = absurd reads
run_told gathers asked (Some bytes) (Some rest) before after text m phases outcome result reads ended is ran means wrote frames =
    let none : rest ≡ [] = ended (parses_small text m phases is) in
    let whole : bytes ≡ text = reads ∙ ap (λ (z : List ℕ). text ++ z) none ∙ append-nil text in
    recorded gathers asked before after result bytes rest (record {
      read = none;
      minor = m;
      phases = phases;
      parses = subst (λ (t : List ℕ). Parses t (parses m phases)) (sym whole) is;
      outcome = outcome;
      ran = ran;
      means = means;
      wrote = wrote;
      frames = frames;
    })
