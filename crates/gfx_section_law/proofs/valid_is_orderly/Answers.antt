use Rattle.gfx_section_law.proofs.OrderlyHistories.{orderly_history}
use Rattle.gfx_section_law.proofs.valid_is_orderly.Goals as goal

pub returns : goal.returns
returns c = orderly_history
