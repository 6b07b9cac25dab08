use Rattle.std.proofs.Common.{subst}
use Rattle.gfx_capture.specs.Log.{Logged, IsSound}
use Rattle.gfx_capture.proofs.Logs.{few, sound}
use Rattle.gfx_capture.proofs.log.Log.blocks.Goals as goal

pub returns-clause-few : goal.returns-clause-few
returns-clause-few c = few _ _ _ _ c.self.invariant

pub returns-clause-sound : goal.returns-clause-sound
returns-clause-sound c = subst (λ (z : Logged). IsSound z.minor z.entries) c.self.view_is (sound _ _ _ _ c.self.invariant)
