use Rattle.std.proofs.Common.{refl, sym, ◌∙◌}
use Rattle.gfx_text.proofs.Numbers.{number_is, number_not, digits_break, digits_end}
use Rattle.gfx_text.proofs.words.number_of.Goals as goal

pub returns-then-not-is_plain : goal.returns-then-not-is_plain
returns-then-not-is_plain c = sym (number_not c.args.word.now (sym c.is_plain.ensures ∙ c.if-not-is_plain.true))

pub returns-in_err-number : goal.returns-in_err-number
returns-in_err-number c =
    rw c.from_residual.ensures
    (sym (
    number_is c.args.word.now (sym c.is_plain.ensures ∙ c.if-not-is_plain.false)
    ∙ sym c.digits.invariant
    ∙ digits_break c.args.word.now c.digits.digit-index c.digits.number _ c.digits-test.true refl (sym c.with_digit.ensures ∙ c.in_err-number.was)
    ))

pub returns : goal.returns
returns c =
    sym (
    number_is c.args.word.now (sym c.is_plain.ensures ∙ c.if-not-is_plain.false)
    ∙ sym c.digits.invariant
    ∙ digits_end c.args.word.now c.digits.digit-index c.digits.number c.digits-test.false
    )
