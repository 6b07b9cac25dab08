use Rattle.gfx_trim_law.proofs.Keeps.{trimming_keeps_frames}
use Rattle.gfx_trim_law.proofs.trimming_keeps_frames.Goals as goal

pub returns : goal.returns
returns c = trimming_keeps_frames
