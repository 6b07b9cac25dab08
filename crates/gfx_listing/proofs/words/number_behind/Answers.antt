use Rattle.std.proofs.Common.{◌^◌, sym, ap, ◌∙◌}
use Rattle.gfx_grammar.specs.Reading.{◌>>=◌}
use Rattle.gfx_text_grammar.specs.Words.{number_in}
use Rattle.gfx_listing.proofs.words.number_behind.Goals as goal

pub returns-in-Some : goal.returns-in-Some
returns-in-Some c = c.number_of.ensures ∙ sym (ap (λ o. o >>= number_in (2 ^ 64)) c.in-Some.ensures)

pub returns-in-None : goal.returns-in-None
returns-in-None c = sym (ap (λ o. o >>= number_in (2 ^ 64)) c.in-None.ensures)
