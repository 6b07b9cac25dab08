use Rattle.std.proofs.Common.{rules}
use Rattle.gfx_text_writer.proofs.Grown.{row_shown}
use Rattle.gfx_text_writer.proofs.showing.put_swapchains.Goals as goal

pub returns-in-CreateSwapchainKHR-clause-ok : goal.returns-in-CreateSwapchainKHR-clause-ok
returns-in-CreateSwapchainKHR-clause-ok g c =
    row_shown c.show-in-CreateSwapchainKHR.result _ _ _ _ _ c.show-in-CreateSwapchainKHR.ensures.ok (search rules)

pub returns-in-AcquireNextImageKHR-clause-ok : goal.returns-in-AcquireNextImageKHR-clause-ok
returns-in-AcquireNextImageKHR-clause-ok g c =
    row_shown c.show-in-AcquireNextImageKHR.result _ _ _ _ _ c.show-in-AcquireNextImageKHR.ensures.ok (search rules)
