use Rattle.std.proofs.Common.{subst}
use Rattle.gfx_model.specs.Blocks.{clean}
use Rattle.gfx_model.specs.Frames.{frames}
use Rattle.gfx_model.specs.Meaning.{Means}
use Rattle.gfx_script_model.specs.Runs.{history}
use Rattle.gfx_capture.specs.Log.{Logged}
use Rattle.gfx_capture.proofs.Logs.{means}
use Rattle.gfx_capture.proofs.log.Log.bytes.Goals as goal

pub returns-clause-file : goal.returns-clause-file
returns-clause-file c =
    rw c.as_slice.ensures.value (subst (λ (z : Logged). Means c.self.inside.bytes.items (frames (history z.entries)) clean) c.self.view_is (means _ _ _ _ c.self.invariant))
