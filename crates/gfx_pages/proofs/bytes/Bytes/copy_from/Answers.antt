use Rattle.std.proofs.Common.{◌≡◌, ◌∙◌, ap, arith, drop}
use Rattle.std.proofs.lemmas.List.{length-drop}
use lib.Seq.{paste}
use Rattle.gfx_pages.proofs.Lists.{copy_step_from, keeps_same, copied_is}
use Rattle.gfx_pages.proofs.bytes.Bytes.copy_from.Goals as goal

pub loop-done-preserved : goal.loop-done-preserved
loop-done-preserved c = (
  omega arith,
  copy_step_from _ c.args.to c.args.other.now c.args.from c.loop-done.done c.part_size-size.result _ _ (omega arith) (omega arith) c.loop-done.invariant.1 c.in_ok-copy_part.ensures.ok,
)

pub returns-in_err-copy_part-clause-outside : goal.returns-in_err-copy_part-clause-outside
returns-in_err-copy_part-clause-outside c =
    keeps_same _ _ c.args.to (drop c.args.from c.args.other.now) c.loop-done.done _ c.requires.room (omega arith) (omega (arith, length-drop c.args.from c.args.other.now)) (c.in_err-copy_part.ensures.err ∙ c.loop-done.invariant.1)

pub returns-clause-ok : goal.returns-clause-ok
returns-clause-ok c =
    let all : c.loop-done.done ≡ c.args.count = omega arith in
    copied_is _ c.args.to c.args.other.now _ c.args.from c.args.count c.requires.there (c.loop-done.invariant.1 ∙ ap (paste c.args.self.now c.args.to (drop c.args.from c.args.other.now)) all)
