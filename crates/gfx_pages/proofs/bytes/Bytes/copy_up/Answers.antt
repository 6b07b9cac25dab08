use Rattle.std.proofs.Common.{◌∙◌, arith}
use Rattle.gfx_pages.proofs.Lists.{up_loop, up_failed}
use Rattle.gfx_pages.proofs.bytes.Bytes.copy_up.Goals as goal

pub loop-left-preserved : goal.loop-left-preserved
loop-left-preserved c = (
  omega arith,
  up_loop c.args.self.now c.args.to c.args.from c.args.count c.loop-left.left c.part_size_before-size.result _ _ c.requires.up c.requires.room (omega arith) (omega arith) c.loop-left.invariant.1 c.in_ok-move_part.ensures.ok,
)

pub returns-in_err-move_part-clause-outside : goal.returns-in_err-move_part-clause-outside
returns-in_err-move_part-clause-outside c =
    up_failed c.args.self.now c.args.to c.args.from c.args.count c.loop-left.left _ c.requires.up c.requires.room (omega arith) (c.in_err-move_part.ensures.err ∙ c.loop-left.invariant.1)
