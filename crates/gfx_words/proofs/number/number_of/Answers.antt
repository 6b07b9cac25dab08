use Rattle.std.proofs.Common.{◌≡◌, true, false, ap, sym, ◌∙◌}
use Rattle.gfx_words.specs.Digits.{is_plain}
use Rattle.gfx_words.proofs.Numbers.{number_read, number_spelled, plain_decimal}
use Rattle.gfx_words.proofs.number.number_of.Goals as goal

pub returns-in-Ok-clause-some : goal.returns-in-Ok-clause-some
returns-in-Ok-clause-some c =
    number_read _ c.args.text.now c.in-Ok.n c.parse.result (ap is_plain (sym c.as_bytes.ensures.value) ∙ sym c.is_plain.ensures ∙ c.if-is_plain.true) c.parse.ensures.value.0 c.in-Ok.is

pub returns-in_default-clause-none : goal.returns-in_default-clause-none
returns-in_default-clause-none c e n small is =
    let no : false ≡ true = sym c.if-is_plain.false ∙ c.is_plain.ensures ∙ ap is_plain (c.as_bytes.ensures.value ∙ is) ∙ plain_decimal n small in
    cc

pub returns-in_default-2-clause-none : goal.returns-in_default-2-clause-none
returns-in_default-2-clause-none c e n small is =
    let ok = number_spelled c.args.text.now n c.parse.result small is c.parse.ensures.value.0 in
    let failed = c.in_default.is in
    cc
