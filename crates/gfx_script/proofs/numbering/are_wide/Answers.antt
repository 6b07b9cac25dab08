use Rattle.std.proofs.Common.{arith}
use Rattle.gfx_script.proofs.Fitting.{all_wide}
use Rattle.gfx_script.proofs.numbering.are_wide.Goals as goal

pub returns : goal.returns
returns c = all_wide c.args.ids.now (λ i. omega (arith, c.type_inv.ids i))
