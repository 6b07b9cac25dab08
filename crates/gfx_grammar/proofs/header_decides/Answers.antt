use Rattle.gfx_grammar.proofs.HeaderLaws.{header_fault-start, header_fault-options}
use Rattle.gfx_grammar.proofs.header_decides.Goals as goal

pub returns : goal.returns
returns c = λ start rest there. (λ f is. header_fault-start start rest f there is, λ good. header_fault-options start rest there good)
