use Rattle.gfx_section_law.proofs.SectionLaws.{section_runs}
use Rattle.gfx_section_law.proofs.section_runs.Goals as goal

pub returns : goal.returns
returns c = section_runs
