use Rattle.gfx_log_law.proofs.Files.{logs_are_files}
use Rattle.gfx_log_law.proofs.logs_are_files.Goals as goal

pub returns : goal.returns
returns c = logs_are_files
