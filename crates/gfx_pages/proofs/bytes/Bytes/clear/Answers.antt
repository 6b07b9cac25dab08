use Rattle.std.proofs.Common.{ℕ, arith, replicate, ◌∙◌}
use Rattle.std.proofs.lemmas.List.{length-replicate}
use Rattle.gfx_pages.proofs.Lists.{clear_step, keeps_same}
use Rattle.gfx_pages.proofs.bytes.Bytes.clear.Goals as goal

pub loop-done-preserved : goal.loop-done-preserved
loop-done-preserved c = (
  omega arith,
  clear_step _ c.args.at c.args.count c.loop-done.done c.part_size-size.result _ _ (omega arith) (omega arith) c.loop-done.invariant.1 c.in_ok-clear_part.ensures.ok,
)

pub returns-in_err-clear_part-clause-outside : goal.returns-in_err-clear_part-clause-outside
returns-in_err-clear_part-clause-outside c =
    keeps_same _ _ c.args.at (replicate c.args.count 0) c.loop-done.done _ c.requires (omega arith) (omega (arith, length-replicate {A = ℕ} c.args.count 0)) (c.in_err-clear_part.ensures.err ∙ c.loop-done.invariant.1)
