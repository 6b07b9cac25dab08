use Rattle.std.proofs.Common.{rules}
use Rattle.gfx_text_writer.proofs.Grown.{row_shown}
use Rattle.gfx_text_writer.proofs.showing.put_signals.Goals as goal

pub returns-in-WaitForFences-clause-ok : goal.returns-in-WaitForFences-clause-ok
returns-in-WaitForFences-clause-ok g c =
    row_shown c.show-in-WaitForFences.result _ _ _ _ _ c.show-in-WaitForFences.ensures.ok (search rules)

pub returns-in-CreateSemaphore-clause-ok : goal.returns-in-CreateSemaphore-clause-ok
returns-in-CreateSemaphore-clause-ok g c =
    row_shown c.show-in-CreateSemaphore.result _ _ _ _ _ c.show-in-CreateSemaphore.ensures.ok (search rules)

pub returns-in-DestroySemaphore-clause-ok : goal.returns-in-DestroySemaphore-clause-ok
returns-in-DestroySemaphore-clause-ok g c =
    row_shown c.show-in-DestroySemaphore.result _ _ _ _ _ c.show-in-DestroySemaphore.ensures.ok (search rules)
