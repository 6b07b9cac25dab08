use Rattle.gfx_section_law.proofs.SectionLaws.{section_spelled}
use Rattle.gfx_section_law.proofs.section_spelled.Goals as goal

pub returns : goal.returns
returns c = section_spelled
