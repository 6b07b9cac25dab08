-- Frames that a recording doesn't have are no presents of its script.
use Rattle.std.proofs.Common.{◌≡◌, ◌⊎◌, inl, inr, ℕ, Bool, List, Option, Result, Err, sym, ◌∙◌, subst, arith}
use Rattle.gfx_script_model.specs.Scripts.{Part, Parses, parses}
use Rattle.gfx_script_law.specs.Playable.{IsPlayable}
use Rattle.gfx_script_law.specs.Presents.{presents}
use Rattle.gfx_script_law.proofs.Playing.{parsed_is_playable}
use Rattle.gfx_gather.specs.Shown.{shown_phases}
use Rattle.gfx_gather.proofs.Staying.{shown_has_presents}
use Rattle.gfx_gather.proofs.Playing.{shown_is_playable}
use Rattle.gfx_log_law.specs.Logs.{log_file}
use Rattle.gfx_player.specs.Meanings.{history_in}
use Rattle.gfx_player.specs.declared.asked.Asked.{Asked}
use Rattle.gfx_player.specs.declared.asked.Asked.TheVariants.{All, Between}
use Rattle.gfx_trim.specs.Numbers.{IsOutside}
use Rattle.gfx_trim.specs.Trims.{IsWithout}
use Rattle.gfx_recorder.specs.Outcomes.{IsOutcome}
use Rattle.gfx_recorder.specs.declared.outcome.Outcome.{Outcome}
use Rattle.gfx_recorder.specs.declared.outcome.Outcome.TheVariants as ran
use Rattle.gfx_recording.specs.declared.fault.RecordingFault.{RecordingFault}
use Rattle.gfx_recording.specs.declared.fault.RecordingFault.TheVariants.{NoSuchFrame}
use Rattle.gfx_recording.specs.Records.{AreNoFrames, LeftIsSound, TellsFrames, Writes}
use Rattle.gfx_recording.specs.Writing.{TookThen}
use Rattle.gfx_recording.proofs.Numbered.{ShowsPresents, shows_presents}

-- a range that isn't in the file of a log isn't among the presents that it shows
no_frames : (first last count : ℕ) (bytes : List ℕ) → ShowsPresents bytes count → IsOutside first last (history_in bytes) → AreNoFrames (Between first last) count
no_frames first last count bytes shows (inl below) = inl (omega (arith, below, shows.first))
no_frames first last count bytes shows (inr above) = inr (omega (arith, above, shows.last))

missing : (first last low high count : ℕ) (before after : Option (List ℕ)) (bytes left : List ℕ) → ShowsPresents bytes count → IsWithout first last before after low high bytes left
    → TellsFrames (Between first last) count (Err (NoSuchFrame low high))
missing first last low high count before after bytes left shows is = (no_frames first last count bytes shows is.outside, is.low_is ∙ shows.first, is.high_is ∙ shows.last)

-- what ended early isn't told so
not_early : (why : RecordingFault) (low high : ℕ) (before after : Option (List ℕ)) (file : List ℕ) → ¬ (NoSuchFrame low high ≡ why) → TookThen why before after file (Err (NoSuchFrame low high)) → ⊥
not_early why low high before after file other (inl took) = other took.0
not_early why low high before after file other (inr part) = let e = part.0 in absurd cc

-- of a run of a script, with writes gathered where that is asked for
tells_frames : (gathers : Bool) (asked : Asked) (before after : Option (List ℕ)) (m : ℕ) (phases : List (List Part)) (outcome : Outcome) (result : Result Unit RecordingFault)
    → IsPlayable m phases → IsOutcome m (shown_phases gathers phases) outcome → LeftIsSound outcome → Writes asked before after outcome result → TellsFrames asked (presents phases) result
tells_frames gathers All before after m phases (ran.Done log) (Err (NoSuchFrame low high)) play is sound wrote = absurd wrote
tells_frames gathers (Between first last) before after m phases (ran.Done log) (Err (NoSuchFrame low high)) play is sound (left, without) =
    let shown = shown_phases gathers phases in
    let shows = shows_presents m log.minor shown log.entries (subst (λ k. (k ≡ 1) ⊎ (k ≡ 2)) (sym is.0) play.version) (shown_is_playable gathers m phases play) is.1 sound in
    missing first last low high (presents phases) before after (log_file log.minor log.entries) left
    (subst (ShowsPresents (log_file log.minor log.entries)) (shown_has_presents gathers phases) shows) without
tells_frames gathers asked before after m phases (ran.Refused line fault at log) (Err (NoSuchFrame low high)) play is sound wrote = absurd (not_early _ low high before after _ (λ e. absurd cc) wrote)
tells_frames gathers asked before after m phases (ran.LogFull long wanted log) (Err (NoSuchFrame low high)) play is sound wrote = absurd (not_early _ low high before after _ (λ e. absurd cc) wrote)
tells_frames gathers asked before after m phases ran.WantMemory (Err (NoSuchFrame low high)) play is sound wrote = let e = wrote.0 in absurd cc
tells_frames gathers asked before after m phases outcome _ play is sound wrote = tt

-- and of a text that was read as such a script
pub run_frames : (gathers : Bool) (asked : Asked) (before after : Option (List ℕ)) (text : List ℕ) (m k : ℕ) (phases shown : List (List Part)) (outcome : Outcome) (result : Result Unit RecordingFault)
    → Parses text (parses m phases) → k ≡ m → shown ≡ shown_phases gathers phases → IsOutcome k shown outcome → LeftIsSound outcome → Writes asked before after outcome result → TellsFrames asked (presents phases) result
run_frames gathers asked before after text m k phases shown outcome result is minor same ran sound wrote =
    tells_frames gathers asked before after m phases outcome result (parsed_is_playable text m phases is)
    (subst (λ (z : ℕ × List (List Part)). IsOutcome z.0 z.1 outcome) (λ i. (minor i, same i)) ran) sound wrote
