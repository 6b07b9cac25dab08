use Rattle.std.proofs.Common.{arith, ◌∙◌}
use Rattle.gfx_pages.proofs.Lists.{write_step, keeps_same, overwrite_is}
use Rattle.gfx_pages.proofs.bytes.Bytes.write.Goals as goal

pub returns-in_err-write_part-clause-outside : goal.returns-in_err-write_part-clause-outside
returns-in_err-write_part-clause-outside c =
    keeps_same _ _ c.args.at c.args.piece.now c.loop-done.done _ c.requires (omega arith) (omega arith) (c.in_err-write_part.ensures.err ∙ c.loop-done.invariant.1)

pub loop-done-preserved : goal.loop-done-preserved
loop-done-preserved c = (
  omega arith,
  write_step _ c.args.at c.args.piece.now c.loop-done.done c.part_size.result _ _ (omega arith) (omega arith) c.loop-done.invariant.1 c.in_ok-write_part.ensures.ok,
)

pub returns-clause-ok : goal.returns-clause-ok
returns-clause-ok c = overwrite_is _ c.args.at c.args.piece.now _ c.loop-done.done (omega arith) c.loop-done.invariant.1
