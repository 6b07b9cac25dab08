use Rattle.std.proofs.Common.{◌≡◌, ◌++◌, map, length}
use Rattle.gfx_text_grammar.specs.Splits.{tokens_of}
use Rattle.gfx_listing.proofs.tokens.tokens.Given as goal

-- the tokens so far and those of what is left are all tokens
abbrev pub invariant-tokens : goal.invariant-tokens
invariant-tokens l = record {
  parts : map (λ t. t.now) l.tokens.items ++ tokens_of l.rest ≡ tokens_of l.line;
  long : length l.tokens.items ≡ l.counter;
}
