use Rattle.std.proofs.Common.{List, ℕ, Ok, Err, ap, subst, sym, ◌∙◌}
use Rattle.std.proofs.lemmas.Result.{err_from_is_err_and}
use Rattle.gfx_script_model.specs.Scripts.{Part}
use Rattle.gfx_script_model.specs.Runs.{Safe}
use Rattle.gfx_script.specs.Line.{phases_of}
use Rattle.gfx_script_law.specs.Presents.{presents}
use Rattle.gfx_script_law.proofs.Playing.{parsed_is_playable}
use Rattle.gfx_recorder.specs.Outcomes.{IsOutcome}
use Rattle.gfx_recording.specs.Records.{IsScriptOf, IsUnstopped}
use Rattle.gfx_recording.proofs.Missing.{run_frames}
use Rattle.gfx_recording.proofs.Recorded.{text_unstopped, script_safe, run_told, done_unstopped}
use Rattle.gfx_recording.proofs.recording.record.Goals as goal

pub returns-in_err-script-clause-complete : goal.returns-in_err-script-clause-complete
returns-in_err-script-clause-complete g c = λ told safe read wrote.
    let p = err_from_is_err_and c.from_residual-in_err-script.result c.from_residual-in_err-script.ensures.1 in
    let why = c.in_err-script.field-0.0 in
    subst IsUnstopped (sym (p.1 ∙ ap Err p.2))
    (text_unstopped c.args.gathers c.args.asked _ _ c.in_ok-text.text.items why c.in_ok-text.ensures.text c.in_ok-text.ensures.ended
    (subst (λ (t : List ℕ). IsScriptOf t (Err why)) c.as_slice.ensures.value c.in_err-script.ensures.script) told safe)

pub run_as-requires : goal.run_as-requires
run_as-requires g c =
    let script = c.in_ok-script.script in
    let is = subst (λ (t : List ℕ). IsScriptOf t (Ok script)) c.as_slice.ensures.value c.in_ok-script.ensures.script in
    parsed_is_playable c.in_ok-text.text.items script.minor (phases_of script.phases) is.0

pub returns-clause-told : goal.returns-clause-told
returns-clause-told g c =
    let script = c.in_ok-script.script in let shown = c.in_ok-shown.ensures in
    let is = subst (λ (t : List ℕ). IsScriptOf t (Ok script)) c.as_slice.ensures.value c.in_ok-script.ensures.script in
    run_told c.args.gathers c.args.asked _ _ _ _ c.in_ok-text.text.items script.minor (phases_of script.phases) c.record_script-outcome.result _ c.in_ok-text.ensures.text c.in_ok-text.ensures.ended is.0
    (subst (λ (z : ℕ × List (List Part)). IsOutcome z.0 z.1 c.record_script-outcome.result) (λ i. (shown.minor i, shown.phases i)) c.record_script-outcome.ensures.outcome)
    c.write_outcome.ensures.means c.write_outcome.ensures.wrote
    (run_frames c.args.gathers c.args.asked _ _ c.in_ok-text.text.items script.minor _ (phases_of script.phases) _ c.record_script-outcome.result c.write_outcome.result is.0 shown.minor shown.phases
    c.record_script-outcome.ensures.outcome c.write_outcome.ensures.sound c.write_outcome.ensures.wrote)

pub returns-clause-complete : goal.returns-clause-complete
returns-clause-complete g c = λ told safe read written.
    let script = c.in_ok-script.script in let shown = c.in_ok-shown.ensures in
    let is = subst (λ (t : List ℕ). IsScriptOf t (Ok script)) c.as_slice.ensures.value c.in_ok-script.ensures.script in
    let safe_so = script_safe c.args.gathers c.args.asked _ _ c.in_ok-text.text.items script.minor (phases_of script.phases) c.in_ok-text.ensures.text c.in_ok-text.ensures.ended is told safe in
    done_unstopped c.args.asked _ _ (presents (phases_of script.phases)) c.record_script-outcome.result c.write_outcome.result
    (c.record_script-outcome.ensures.complete (subst (λ (z : ℕ × List (List Part)). Safe z.0 z.1) (λ i. (sym shown.minor i, sym shown.phases i)) safe_so.0))
    c.write_outcome.ensures.wrote safe_so.1
    (run_frames c.args.gathers c.args.asked _ _ c.in_ok-text.text.items script.minor _ (phases_of script.phases) _ c.record_script-outcome.result c.write_outcome.result is.0 shown.minor shown.phases
    c.record_script-outcome.ensures.outcome c.write_outcome.ensures.sound c.write_outcome.ensures.wrote)
    (λ e. written (c.write_outcome.ensures.sink_fault e))
