use Rattle.gfx_section_law.proofs.SectionLaws.{section_covers}
use Rattle.gfx_section_law.proofs.section_covers.Goals as goal

pub returns : goal.returns
returns c = section_covers
