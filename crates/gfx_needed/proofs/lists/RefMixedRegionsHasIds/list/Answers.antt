use Rattle.std.proofs.Common.{◌++◌, sym, ap, ◌∙◌, append-nil}
use Rattle.gfx_needed.proofs.Listed.{no_mixed_ids}
use Rattle.gfx_needed.proofs.lists.RefMixedRegionsHasIds.list.Goals as goal

pub returns : goal.returns
returns c = sym (ap (λ l. c.args.arg2.now.items ++ l) (no_mixed_ids c.args.self.now.now) ∙ append-nil c.args.arg2.now.items)
