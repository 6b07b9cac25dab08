use Rattle.std.proofs.Common.{arith}
use Rattle.gfx_objects.specs.Objects.{answers}
use Rattle.gfx_objects.proofs.Asked.{count_answered, bytes_answered}
use Rattle.gfx_objects.proofs.Steps.{created}
use Rattle.gfx_objects.proofs.objects.Objects.create.Goals as goal

pub add-requires-clause-unused : goal.add-requires-clause-unused
unfolding answers
add-requires-clause-unused c = c.requires.unused

pub add-requires-clause-few : goal.add-requires-clause-few
add-requires-clause-few c = let is = count_answered c.args.self.now in let room = c.requires.room in omega (arith, is, room)

pub add-requires-clause-small : goal.add-requires-clause-small
add-requires-clause-small c = let is = bytes_answered c.args.self.now in let room = c.requires.bytes in omega (arith, is, room)

pub returns-clause-step : goal.returns-clause-step
returns-clause-step c = created c.args.self.now c.add.new.self c.args.id _ c.add.ensures.rows c.add.ensures.used c.add.ensures.fresh c.requires.new
