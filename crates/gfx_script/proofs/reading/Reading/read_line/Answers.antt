use Rattle.std.proofs.Common.{map, length, nat_le, ◌≡◌, ◌&&◌, true, false, sym, ap, ◌∙◌, subst, option_map}
use Rattle.gfx_model.specs.Limits.{max_phases}
use Rattle.gfx_script_model.specs.Scripts.{Outcome, is_phase}
use Rattle.gfx_text_grammar.specs.Parsing.{form_of, form_outcome}
use Rattle.gfx_script.specs.Answers.{GivesOutcome}
use Rattle.gfx_script.specs.Kinds.{kind_of}
use Rattle.gfx_script.specs.State.{reading_of}
use Rattle.gfx_script.proofs.Forms.{begins_too_many, line_early, line_many, line_formed}
use Rattle.gfx_script.proofs.reading.Reading.read_line.Goals as goal

pub returns-in-Some-clause-line : goal.returns-in-Some-clause-line
returns-in-Some-clause-line c = line_early c.args.number c.args.through (reading_of c.args.self.now) c.args.line.now (kind_of c.in-Some.kind) (sym c.in-Some.ensures)

pub returns-then-begins_too_many-clause-line : goal.returns-then-begins_too_many-clause-line
returns-then-begins_too_many-clause-line c =
    let r = reading_of c.args.self.now in
    let full : begins_too_many c.args.number c.args.through r c.args.line.now ≡ true =
    ap (λ z. is_phase z && nat_le max_phases (length r.phases)) (sym c.in_ok-tokens.ensures ∙ ap (map (λ t. t.now)) (sym c.deref.ensures.value)) ∙ sym c.begins_too_many.ensures ∙ c.if-begins_too_many.true in
    line_many c.args.number c.args.through r c.args.line.now (sym c.early_fault.ensures ∙ ap (option_map kind_of) c.in_default.is) full

pub returns-clause-line : goal.returns-clause-line
returns-clause-line c =
    let r = reading_of c.args.self.now in
    let few : begins_too_many c.args.number c.args.through r c.args.line.now ≡ false =
    ap (λ z. is_phase z && nat_le max_phases (length r.phases)) (sym c.in_ok-tokens.ensures ∙ ap (map (λ t. t.now)) (sym c.deref.ensures.value)) ∙ sym c.begins_too_many.ensures ∙ c.if-begins_too_many.false in
    let formed = line_formed c.args.number c.args.through r c.args.line.now (sym c.early_fault.ensures ∙ ap (option_map kind_of) c.in_default.is) few in
    let seen = c.deref-2.ensures.value in
    let told = c.in_ok-tokens.ensures in
    subst (λ (o : Outcome). GivesOutcome o (reading_of c.read_tokens.new.self) c.read_tokens.result)
    (ap (λ z. form_outcome c.args.number r (form_of r.minor z)) (ap (map (λ t. t.now)) seen ∙ told) ∙ sym formed)
    c.read_tokens.ensures
