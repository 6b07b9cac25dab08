use Rattle.std.proofs.Common.{rules, ◌≡◌, nat_eq, Some, ◌∙◌}
use Rattle.std.proofs.lemmas.Bool.{cond-false, ne_eqb}
use Rattle.gfx_model.specs.Events.Event.{QueuePresentKHR}
use Rattle.gfx_grammar.specs.Rows.{with3}
use Rattle.gfx_text_grammar.specs.FieldReading.{read_field}
use Rattle.gfx_text_grammar.specs.Rows.{present_row}
use Rattle.gfx_text.specs.Fields.{left_of}
use Rattle.gfx_text.proofs.reading.read_present.Given.{Over}
use Rattle.gfx_text.proofs.reading.read_present.Goals as goal

presents_read : (g : Over) (c : goal.In-Ok g) → present_row (g.I.ReadId.style c.args.ids.now) c.args.minor (left_of c.args.left)
    ≡ Some (QueuePresentKHR c.in-Ok.field-0-0.0 c.in-Ok.field-0-1-0.0 c.in-Ok.field-0-1-1.0)
unfolding present_row read_field
presents_read g c =
    cond-false (nat_eq c.args.minor 1) _ _ (ne_eqb c.args.minor 1 c.if-minor-eq1.false) ∙ c.in-Ok.ensures (with3 QueuePresentKHR)

pub returns-in-Ok : goal.returns-in-Ok
returns-in-Ok g c = let is = presents_read g c in search rules
