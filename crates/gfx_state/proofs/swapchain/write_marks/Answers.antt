use Rattle.std.proofs.Common.{◌∙◌, arith}
use Rattle.gfx_swap.specs.Acquired.{is_acquired}
use Rattle.gfx_state.proofs.Fitting.{marks_spelled, marks_small}
use Rattle.gfx_state.proofs.swapchain.write_marks.Goals as goal

pub write_effect-requires-clause-spelled : goal.write_effect-requires-clause-spelled
write_effect-requires-clause-spelled g c =
    marks_spelled c.args.swapchain (is_acquired c.args.swaps.now c.args.swapchain) c.args.images c.requires c.of.result (c.of.ensures ∙ c.in_ok-marks_of.ensures) (omega arith)

pub write_effect-requires-clause-small : goal.write_effect-requires-clause-small
write_effect-requires-clause-small g c =
    marks_small c.args.swapchain (is_acquired c.args.swaps.now c.args.swapchain) c.args.images c.requires c.of.result (c.of.ensures ∙ c.in_ok-marks_of.ensures)
