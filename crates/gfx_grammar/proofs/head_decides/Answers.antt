use Rattle.gfx_grammar.proofs.FrontLaws.{front-head_fault, front-count_fault, front-cut}
use Rattle.gfx_grammar.proofs.head_decides.Goals as goal

pub returns : goal.returns
returns c = λ m at head rest there. (
  λ f is. front-head_fault m at head rest f there is,
  λ kind size h. (
    λ f is. front-count_fault m at kind size head rest f h is,
    λ short good. front-cut m at kind size head rest h short good,
  ),
)
