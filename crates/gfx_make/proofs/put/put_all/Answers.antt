use Rattle.std.proofs.Common.{◌++◌, map}
use Rattle.gfx_model.specs.Events.{event_of}
use Rattle.gfx_make.specs.Made.{blocks}
use Rattle.gfx_make.proofs.Putting.{put_next, put_all}
use Rattle.gfx_make.proofs.put.put_all.Goals as goal

pub effects-preserved : goal.effects-preserved
effects-preserved c =
    put_next c.args.effects.now c.effects.effect-index c.effect-item.result c.effects.out.items c.put_block.new.out.items
    (c.args.out.now.items ++ blocks (map event_of c.args.effects.now)) c.effects-test.true c.effect-item.is c.in_ok-put_block.ensures.ok c.effects.invariant

pub returns : goal.returns
returns c =
    put_all c.args.effects.now c.effects.effect-index c.effects.out.items (c.args.out.now.items ++ blocks (map event_of c.args.effects.now))
    c.effects-test.false c.effects.invariant
