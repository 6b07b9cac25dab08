use Rattle.gfx_state.proofs.Versions.{kept_in_versions}
use Rattle.gfx_state.proofs.kept_in_versions.Goals as goal

pub returns : goal.returns
returns c = kept_in_versions
