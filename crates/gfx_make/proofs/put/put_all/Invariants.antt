use Rattle.std.proofs.Common.{◌++◌, map}
use Rattle.gfx_model.specs.Events.{event_of}
use Rattle.gfx_make.specs.Made.{blocks}
use Rattle.gfx_make.proofs.Putting.{LeftToPut}
use Rattle.gfx_make.proofs.put.put_all.Given as goal

-- the blocks of the effects from here on are left to append
abbrev pub invariant-effects : goal.invariant-effects
invariant-effects l = LeftToPut l.effects l.effect-index l.out.items (l.fn.out.items ++ blocks (map event_of l.effects))
