use Rattle.std.proofs.Common.{rules}
use Rattle.gfx_text_writer.proofs.Grown.{row_shown}
use Rattle.gfx_text_writer.proofs.showing.put_meta.Goals as goal

pub returns-in-SetSwapchainState-clause-ok : goal.returns-in-SetSwapchainState-clause-ok
returns-in-SetSwapchainState-clause-ok g c =
    row_shown c.show-in-SetSwapchainState.result _ _ _ _ _ c.show-in-SetSwapchainState.ensures.ok (search rules)
