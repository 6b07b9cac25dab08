use Rattle.std.proofs.Common.{sym, ◌∙◌}
use Rattle.gfx_text.proofs.Numbers.{short_some, short_large, short_none}
use Rattle.gfx_listing.proofs.words.short_number_of.Goals as goal

pub returns-in-Some : goal.returns-in-Some
returns-in-Some c = sym (short_some c.args.word.now c.in-Some.number (sym c.number_of.ensures ∙ c.in-Some.is) c.if-number.true)

pub returns-in_default : goal.returns-in_default
returns-in_default c = sym (short_large c.args.word.now c.in-Some.number (sym c.number_of.ensures ∙ c.in-Some.is) c.if-number.false)

pub returns-in_default-2 : goal.returns-in_default-2
returns-in_default-2 c = sym (short_none c.args.word.now (sym c.number_of.ensures ∙ c.in_default.is))
