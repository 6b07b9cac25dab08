use Rattle.std.proofs.Common.{◌≡◌, ◌++◌, map, length}
use Rattle.gfx_script_model.specs.Statements.{tokens_of}
use Rattle.gfx_script.proofs.tokens.tokens.Given as goal

-- the tokens so far and those of what is left are all tokens
abbrev pub invariant-tokens : goal.invariant-tokens
invariant-tokens l = map (λ t. t.now) l.tokens.items ++ tokens_of l.rest ≡ tokens_of l.line

abbrev pub decreases-tokens : goal.decreases-tokens
decreases-tokens l = length l.rest
