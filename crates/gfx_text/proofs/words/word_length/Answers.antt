use Rattle.std.proofs.Common.{sym, ◌∙◌}
use Rattle.gfx_text.proofs.Fronts.{ends, position_some, position_none}
use Rattle.gfx_text.proofs.words.word_length.Goals as goal

pub returns-in-Some : goal.returns-in-Some
returns-in-Some c = position_some ends c.args.text.now c.in-Some.end (sym c.word_end.ensures ∙ c.in-Some.is)

pub returns-in-None : goal.returns-in-None
returns-in-None c = position_none ends c.args.text.now (sym c.word_end.ensures ∙ c.in-None.is)
