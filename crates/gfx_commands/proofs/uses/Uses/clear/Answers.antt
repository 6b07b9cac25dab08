use Rattle.gfx_commands.proofs.Index.{empty_index}
use Rattle.gfx_commands.proofs.uses.Uses.clear.Goals as goal

pub returns : goal.returns
returns c = empty_index c.clear.new.self.map c.clear.ensures.map
