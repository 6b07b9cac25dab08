use Rattle.gfx_list.proofs.Placing.{block_long, framed}
use Rattle.gfx_list.proofs.parts.place_after.Goals as goal

pub framing_of-framing-requires : goal.framing_of-framing-requires
framing_of-framing-requires c = block_long c.args.block.now c.requires.block

pub place_behind-requires-clause-framed : goal.place_behind-requires-clause-framed
place_behind-requires-clause-framed c = rw (c.framing_of-framing.ensures.0, c.framing_of-framing.ensures.1) (framed c.args.block.now c.requires.block)
