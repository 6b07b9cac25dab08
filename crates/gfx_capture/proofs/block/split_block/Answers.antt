use Rattle.std.proofs.Common.{◌≡◌, ◌+◌, take, drop, ap, ◌∙◌, arith}
use Rattle.std.specs.Int.{w64}
use Rattle.gfx_model.specs.Blocks.{size_field}
use Rattle.gfx_capture.proofs.Written.{number_is, number_there}
use Rattle.gfx_capture.proofs.block.split_block.Goals as goal

pub overflow_add-size : goal.overflow_add-size
overflow_add-size c =
    let is : c.in-Some.size ≡ size_field c.args.bytes.now = (number_is w64 _ _ _ c.in-Some.ensures).0 in omega (arith, is, c.requires.whole)

pub split_at-requires : goal.split_at-requires
split_at-requires c =
    let is : c.in-Some.size ≡ size_field c.args.bytes.now = (number_is w64 _ _ _ c.in-Some.ensures).0 in omega (arith, is, c.requires.whole)

pub unreachable-requires : goal.unreachable-requires
unreachable-requires c = number_there w64 _ (omega (arith, c.requires.head)) c.in-None.ensures

pub returns-clause-block : goal.returns-clause-block
returns-clause-block c = c.split_at.ensures.front ∙ ap (λ n. take (12 + n) c.args.bytes.now) (number_is w64 _ _ _ c.in-Some.ensures).0

pub returns-clause-rest : goal.returns-clause-rest
returns-clause-rest c = c.split_at.ensures.back ∙ ap (λ n. drop (12 + n) c.args.bytes.now) (number_is w64 _ _ _ c.in-Some.ensures).0
