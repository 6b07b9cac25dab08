use Rattle.gfx_state.proofs.Versions.{section_in_versions}
use Rattle.gfx_state.proofs.section_in_versions.Goals as goal

pub returns : goal.returns
returns c = section_in_versions
