use Rattle.std.proofs.Common.{map, sym, ap, ◌∙◌, subst, option_map, Some}
use Rattle.gfx_script_model.specs.Statements.Form.{skips, sets_version, begins_phase, begins_thread}
use Rattle.gfx_script_model.specs.Scripts.{Outcome}
use Rattle.gfx_script.specs.Answers.{GivesOutcome}
use Rattle.gfx_script.specs.Plain.{form_of_plain}
use Rattle.gfx_script.specs.State.{reading_of}
use Rattle.gfx_script.proofs.Forms.{plain_outcome, stated_outcome}
use Rattle.gfx_script.proofs.reading.Reading.read_tokens.Goals as goal

pub returns-in-Some-Skips : goal.returns-in-Some-Skips
returns-in-Some-Skips c =
    plain_outcome c.args.number (reading_of c.args.self.now) (map (λ t. t.now) c.args.tokens.now) skips
    (sym c.of.ensures ∙ ap (option_map form_of_plain) (c.in-Some-Skips.is ∙ ap Some c.in-Some-Skips.field-0-is))

pub returns-in-Some-SetsVersion : goal.returns-in-Some-SetsVersion
returns-in-Some-SetsVersion c =
    subst (λ (o : Outcome). GivesOutcome o (reading_of c.set_version.new.self) c.set_version.result)
    (sym (plain_outcome c.args.number (reading_of c.args.self.now) (map (λ t. t.now) c.args.tokens.now) sets_version
    (sym c.of.ensures ∙ ap (option_map form_of_plain) (c.in-Some-SetsVersion.is ∙ ap Some c.in-Some-SetsVersion.field-0-is))))
    c.set_version.ensures

pub returns-in_ok-begin_phase-in-Some-BeginsPhase : goal.returns-in_ok-begin_phase-in-Some-BeginsPhase
returns-in_ok-begin_phase-in-Some-BeginsPhase c =
    plain_outcome c.args.number (reading_of c.args.self.now) (map (λ t. t.now) c.args.tokens.now) begins_phase
    (sym c.of.ensures ∙ ap (option_map form_of_plain) (c.in-Some-BeginsPhase.is ∙ ap Some c.in-Some-BeginsPhase.field-0-is))
    ∙ ap Outcome.reads (sym c.in_ok-begin_phase-in-Some-BeginsPhase.ensures)

pub returns-in-Some-BeginsThread : goal.returns-in-Some-BeginsThread
returns-in-Some-BeginsThread c =
    subst (λ (o : Outcome). GivesOutcome o (reading_of c.begin_thread.new.self) c.begin_thread.result)
    (sym (plain_outcome c.args.number (reading_of c.args.self.now) (map (λ t. t.now) c.args.tokens.now) (begins_thread c.in-Some-BeginsThread.thread)
    (sym c.of.ensures ∙ ap (option_map form_of_plain) (c.in-Some-BeginsThread.is ∙ ap Some c.in-Some-BeginsThread.field-0-is))))
    c.begin_thread.ensures

pub returns-in-None : goal.returns-in-None
returns-in-None c =
    subst (λ (o : Outcome). GivesOutcome o (reading_of c.add_statement.new.self) c.add_statement.result)
    (sym (stated_outcome c.args.number (reading_of c.args.self.now) (map (λ t. t.now) c.args.tokens.now) (sym c.of.ensures ∙ ap (option_map form_of_plain) c.in-None.is)))
    c.add_statement.ensures
