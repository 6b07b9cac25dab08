-- What the end of a recording allows, by its text.
use Rattle.std.proofs.Common.{◌≡◌, ◌⊎◌, inl, inr, ◌<◌, ◌≤◌, ◌+◌, ℕ, Bool, List, [], ◌++◌, length, take, Option, Some, None, Err, refl, sym, ap, subst, ◌∙◌, arith}
use Rattle.std.proofs.lemmas.Bool.{cases_lt}
use Rattle.std.proofs.lemmas.List.{append-nil, take_all, take-append-le}
use Rattle.gfx_io.specs.Told.{IfTold}
use Rattle.gfx_io.proofs.Appending.{whole_part}
use Rattle.gfx_gather.specs.Shown.{shown_phases}
use Rattle.gfx_log_law.specs.Logs.{log_file}
use Rattle.gfx_model.specs.Limits.{max_script}
use Rattle.gfx_script_model.specs.Scripts.{Part, Parses, parses, fails}
use Rattle.gfx_script_model.specs.Runs.{Entry}
use Rattle.gfx_script.specs.Kinds.{kind_of}
use Rattle.gfx_script.specs.declared.kind.ScriptKind.{ScriptKind}
use Rattle.gfx_script.specs.declared.kind.ScriptKind.TheVariants.{BadByte, LineTooLong, TooMany, BadLine, Structure, NameUnknown, NameTaken}
use Rattle.gfx_recording.specs.Records.{IsBadScript, Leaves}
use Rattle.gfx_recording.proofs.Length.{parses_small}
use Rattle.gfx_recording.specs.declared.fault.RecordingFault.{RecordingFault}
use Rattle.gfx_recording.specs.declared.fault.RecordingFault.TheVariants.{BadScript, CallRefused, LogFull, NoSuchFrame, ReadFault, SinkFault, WantMemory}
use Rattle.gfx_words.specs.declared.range.FrameRange.{FrameRange}
use Rattle.gfx_words.specs.declared.recording.Recording.{Recording}
use Rattle.gfx_cli.specs.Captures.{Ends, IsFault, IsRun, IsWhole, Lacks, TookFront}

-- ---- a text that is no script

one_kind : (a b : ScriptKind) → kind_of a ≡ kind_of b → a ≡ b
one_kind BadByte BadByte same = refl
one_kind LineTooLong LineTooLong same = refl
one_kind TooMany TooMany same = refl
one_kind BadLine BadLine same = refl
one_kind Structure Structure same = refl
one_kind NameUnknown NameUnknown same = refl
one_kind NameTaken NameTaken same = refl
one_kind a b same = absurd cc

-- what is read of a text, all of it or a byte more than a script may have, is known by the text
taken : (text rest : List ℕ) (most : ℕ) → length text ≤ most → (length text < most → rest ≡ []) → take most (text ++ rest) ≡ text
taken text rest most few ended = elim (cases_lt (length text) most) [
  | inl short ↦ ap (λ r. take most (text ++ r)) (ended short) ∙ (ap (take most) (append-nil text) ∙ take_all most text few)
  | inr long ↦ take-append-le most text rest long ∙ take_all most text few
]

-- such a text is not run
pub not_run : (gathers : Bool) (P : ℕ → List (List Part) → List Entry → Type 0) (line : ℕ) (kind : ScriptKind) (bytes rest : List ℕ) → IsFault line kind bytes → IsRun gathers P bytes rest → ⊥
not_run gathers P line kind bytes rest fault is =
    let small = parses_small bytes is.minor is.phases is.parses in
    let whole = take_all (max_script + 1) bytes (omega (arith, small)) in
    let e : parses is.minor is.phases ≡ fails line (kind_of kind) = fault.1 (parses is.minor is.phases) (subst (λ t. Parses t (parses is.minor is.phases)) (sym whole) is.parses) in absurd cc

-- its first line with a fault is one
same_bad : (line other : ℕ) (kind wrong : ScriptKind) (bytes rest : List ℕ) → IsFault line kind bytes → IsBadScript other wrong bytes rest → BadScript other wrong ≡ BadScript line kind
same_bad line other kind wrong bytes rest fault is =
    let whole = ap (take (max_script + 1)) is.read.parts ∙ taken is.text rest (max_script + 1) is.read.few (λ short. is.read.ended (omega (arith, short))) in
    let same : fails other (kind_of wrong) ≡ fails line (kind_of kind) = fault.1 (fails other (kind_of wrong)) (subst (λ t. Parses t (fails other (kind_of wrong))) (sym whole) is.fails.0) in
    let lines : other ≡ line = cc same in
    let kinds : kind_of wrong ≡ kind_of kind = cc same in
    ap (λ n. BadScript n wrong) lines ∙ ap (BadScript line) (one_kind wrong kind kinds)

pub bad_ends : (r : Recording) (before after : Option (List ℕ)) (why : RecordingFault) (line : ℕ) (kind : ScriptKind) (bytes rest : List ℕ) → IsFault line kind bytes
    → Ends r before after (Err why) bytes rest → ¬ (why ≡ ReadFault) → ¬ (why ≡ SinkFault) → (why ≡ WantMemory) ⊎ (why ≡ BadScript line kind)
bad_ends r before after (BadScript other wrong) line kind bytes rest fault is reads writes = inr (same_bad line other kind wrong bytes rest fault is)
bad_ends r before after (CallRefused number why at) line kind bytes rest fault is reads writes = absurd (not_run r.gathers _ line kind bytes rest fault is)
bad_ends r before after (LogFull long wanted) line kind bytes rest fault is reads writes = absurd (not_run r.gathers _ line kind bytes rest fault is)
bad_ends r before after (NoSuchFrame first last) line kind bytes rest fault is reads writes = absurd (not_run r.gathers _ line kind bytes rest fault is.0)
bad_ends r before after ReadFault line kind bytes rest fault is reads writes = absurd (reads refl)
bad_ends r before after SinkFault line kind bytes rest fault is reads writes = absurd (writes refl)
bad_ends r before after WantMemory line kind bytes rest fault is reads writes = inl refl

-- ---- a prefix of what is written

-- of a run that is so, so it is in other words
run_weaker : (gathers : Bool) (P Q : ℕ → List (List Part) → List Entry → Type 0) (bytes rest : List ℕ) → ((m : ℕ) (phases : List (List Part)) (log : List Entry) → P m phases log → Q m phases log)
    → IsRun gathers P bytes rest → IsRun gathers Q bytes rest
run_weaker gathers P Q bytes rest weaker is = record { read = is.read; minor = is.minor; phases = is.phases; parses = is.parses; log = is.log; means = is.means; so = weaker is.minor (shown_phases gathers is.phases) is.log is.so }

lack_front : (frames : Option FrameRange) (before after : Option (List ℕ)) (first last m : ℕ) (phases : List (List Part)) (log : List Entry)
    → IsWhole m phases log × Lacks frames before after first last (log_file m log) → TookFront frames before after m phases log
lack_front None before after first last m phases log (whole, lacks) = absurd lacks
lack_front (Some r) before after first last m phases log (whole, lacks) = inl (whole, whole_part before after _ lacks.file)

front_of : (r : Recording) (before after : Option (List ℕ)) (why : RecordingFault) (bytes rest : List ℕ)
    → Ends r before after (Err why) bytes rest → Leaves (Err why) (after ≡ before)
    → (after ≡ before) ⊎ IsRun r.gathers (TookFront r.frames before after) bytes rest
front_of r before after (BadScript number kind) bytes rest is none = inl none
front_of r before after (CallRefused number why at) bytes rest is none = inr (run_weaker r.gathers _ _ bytes rest (λ m phases log p. inr (p.0.halted, whole_part before after _ p.1)) is)
front_of r before after (LogFull long wanted) bytes rest is none = inr (run_weaker r.gathers _ _ bytes rest (λ m phases log p. inr (p.0.halted, whole_part before after _ p.1)) is)
front_of r before after (NoSuchFrame first last) bytes rest is none = inr (run_weaker r.gathers _ _ bytes rest (lack_front r.frames before after first last) is.0)
front_of r before after ReadFault bytes rest is none = inl none
front_of r before after SinkFault bytes rest is none = inr is
front_of r before after WantMemory bytes rest is none = is

-- nothing was written, or a prefix of what is written of the log
pub front_told : (r : Recording) (before after left rest : Option (List ℕ)) (why : RecordingFault) → IfTold left rest (Ends r before after (Err why))
    → Leaves (Err why) (after ≡ before) → (after ≡ before) ⊎ IfTold left rest (IsRun r.gathers (TookFront r.frames before after))
front_told r before after None rest why ends none = inr tt
front_told r before after (Some bytes) None why ends none = absurd ends
front_told r before after (Some bytes) (Some more) why ends none = front_of r before after why bytes more ends none

-- what leaves a sink as it was leaves what it took
pub leaves_taken : (why : RecordingFault) (P Q : Type 0) → (P → Q) → Leaves (Err why) P → Leaves (Err why) Q
leaves_taken (BadScript number kind) P Q so is = so is
leaves_taken (CallRefused number why at) P Q so is = tt
leaves_taken (LogFull long wanted) P Q so is = tt
leaves_taken (NoSuchFrame first last) P Q so is = tt
leaves_taken ReadFault P Q so is = so is
leaves_taken SinkFault P Q so is = tt
leaves_taken WantMemory P Q so is = tt
