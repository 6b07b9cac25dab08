use Rattle.std.proofs.Common.{sym, subst}
use Rattle.gfx_model.specs.Events.{event_of_call}
use Rattle.gfx_text_grammar.specs.Rows.{read_event}
use Rattle.gfx_text.specs.Fields.{left_of}
use Rattle.gfx_text.specs.Gives.{Gives}
use Rattle.gfx_text.proofs.reading.read_call.Goals as goal

pub returns-in_default : goal.returns-in_default
unfolding read_event
returns-in_default g c = c.in_default.ensures.row (g.I.ReadId.style c.args.ids.now) c.args.minor (left_of c.args.left)

pub returns : goal.returns
unfolding read_event
returns g c =
    subst (λ o. Gives c.read_row.result event_of_call o)
    (sym (c.in-Some.ensures.row (g.I.ReadId.style c.args.ids.now) c.args.minor (left_of c.args.left))) c.read_row.ensures
