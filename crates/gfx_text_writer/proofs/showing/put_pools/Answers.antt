use Rattle.std.proofs.Common.{rules}
use Rattle.gfx_text_writer.proofs.Grown.{row_shown}
use Rattle.gfx_text_writer.proofs.showing.put_pools.Goals as goal

pub returns-in-AllocateCommandBuffers-clause-ok : goal.returns-in-AllocateCommandBuffers-clause-ok
returns-in-AllocateCommandBuffers-clause-ok g c =
    row_shown c.show-in-AllocateCommandBuffers.result _ _ _ _ _ c.show-in-AllocateCommandBuffers.ensures.ok (search rules)

pub returns-in-FreeCommandBuffers-clause-ok : goal.returns-in-FreeCommandBuffers-clause-ok
returns-in-FreeCommandBuffers-clause-ok g c =
    row_shown c.show-in-FreeCommandBuffers.result _ _ _ _ _ c.show-in-FreeCommandBuffers.ensures.ok (search rules)
