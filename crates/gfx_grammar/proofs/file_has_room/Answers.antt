use Rattle.gfx_grammar.proofs.FileLaws.{file_has_room}
use Rattle.gfx_grammar.proofs.file_has_room.Goals as goal

pub returns : goal.returns
returns c = file_has_room
