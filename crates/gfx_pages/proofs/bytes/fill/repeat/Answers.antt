use Rattle.std.proofs.Common.{arith, ◌%◌, length, slice_index}
use Rattle.std.specs.Int.{to_le_bytes, w32}
use Rattle.std.proofs.lemmas.List.FromFn.{fill_by_all}
use Rattle.gfx_pages.proofs.bytes.fill.repeat.Goals as goal

pub returns : goal.returns
returns c = fill_by_all (λ k. slice_index (to_le_bytes w32 c.args.word) (k % 4)) c.loop-k.into (length c.args.into.now) 0 c.loop-k.auto.into (λ k h. c.loop-k.invariant k 0 (omega arith))
