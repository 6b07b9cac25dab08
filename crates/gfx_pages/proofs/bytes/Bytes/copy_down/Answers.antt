use Rattle.std.proofs.Common.{◌∙◌, arith, drop}
use Rattle.std.proofs.lemmas.List.{length-drop}
use Rattle.gfx_pages.proofs.Lists.{down_step, keeps_same}
use Rattle.gfx_pages.proofs.bytes.Bytes.copy_down.Goals as goal

pub loop-done-preserved : goal.loop-done-preserved
loop-done-preserved c = (
  omega arith,
  down_step c.args.self.now c.args.to c.args.from c.loop-done.done c.part_size-size.result _ _ c.requires.down (omega arith) c.loop-done.invariant.1 c.in_ok-move_part.ensures.ok,
)

pub returns-in_err-move_part-clause-outside : goal.returns-in_err-move_part-clause-outside
returns-in_err-move_part-clause-outside c =
    keeps_same _ _ c.args.to (drop c.args.from c.args.self.now) c.loop-done.done _ (omega arith) (omega arith) (omega (arith, length-drop c.args.from c.args.self.now)) (c.in_err-move_part.ensures.err ∙ c.loop-done.invariant.1)
