use Rattle.std.proofs.Common.{sym, ap, subst, ◌∙◌}
use Rattle.std.specs.Prelude.{IfOk}
use Rattle.gfx_text_grammar.specs.FieldReading.{without_front}
use Rattle.gfx_text.specs.Gives.{Reads}
use Rattle.gfx_text.proofs.Tokens.{token_read, token_not, token_unequal}
use Rattle.gfx_text.proofs.fields.read_token.Goals as goal

pub returns-in_default : goal.returns-in_default
returns-in_default g c =
    token_not c.args.name.now (g.T.ReadValue.reader (g.I.ReadId.style c.args.ids.now)) c.args.token.now
    (ap (λ name. without_front name c.args.token.now) (sym c.as_bytes.ensures.value) ∙ c.in_default.ensures)

pub returns-in_default-behind : goal.returns-in_default-behind
returns-in_default-behind g c =
    token_unequal c.args.name.now (g.T.ReadValue.reader (g.I.ReadId.style c.args.ids.now)) c.args.token.now c.in-Some.after.now
    (ap (λ name. without_front name c.args.token.now) (sym c.as_bytes.ensures.value) ∙ c.in-Some.ensures) c.in_default-behind.ensures

pub returns : goal.returns
returns g c =
    subst (λ o. IfOk c.read_all.result (λ read. Reads read g.T.ReadValue.seen o))
    (sym (token_read c.args.name.now (g.T.ReadValue.reader (g.I.ReadId.style c.args.ids.now)) c.args.token.now c.in-Some.after.now c.in-Some-behind.value.now
    (ap (λ name. without_front name c.args.token.now) (sym c.as_bytes.ensures.value) ∙ c.in-Some.ensures) c.in-Some-behind.ensures)) c.read_all.ensures
