use Rattle.gfx_grammar.proofs.FileLaws.{file_is_read}
use Rattle.gfx_grammar.proofs.file_is_read.Goals as goal

pub returns : goal.returns
returns c = file_is_read
