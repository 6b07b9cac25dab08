use Rattle.std.proofs.Common.{ap, ◌∙◌}
use Rattle.gfx_text_grammar.specs.Splits.{tokens_of}
use Rattle.gfx_text_grammar.proofs.SplitLaws.{split-token}
use Rattle.gfx_listing.proofs.Cuts.{only_token}
use Rattle.gfx_listing.proofs.tokens.first_token.Goals as goal

pub returns-in-Some : goal.returns-in-Some
returns-in-Some c = ap tokens_of c.in-Some.ensures.1 ∙ split-token c.in-Some.token.now c.in-Some.behind.now c.in-Some.ensures.0

pub returns-in-None : goal.returns-in-None
returns-in-None c = only_token c.args.line.now c.in-None.ensures
