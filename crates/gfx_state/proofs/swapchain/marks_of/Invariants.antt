use Rattle.std.proofs.Common.{◌≡◌}
use Rattle.gfx_swap.specs.Acquired.{is_acquired}
use Rattle.gfx_state.specs.Images.{marks_in}
use Rattle.gfx_state.proofs.swapchain.marks_of.Given as goal

-- the marks so far
abbrev pub invariant-images : goal.invariant-images
invariant-images l = l.marks.items ≡ marks_in (is_acquired l.swaps l.swapchain) l.index
