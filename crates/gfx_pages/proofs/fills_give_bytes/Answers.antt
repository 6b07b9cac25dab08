use Rattle.gfx_pages.proofs.Refilled.{fills_give}
use Rattle.gfx_pages.proofs.fills_give_bytes.Goals as goal

pub returns : goal.returns
returns c = fills_give
