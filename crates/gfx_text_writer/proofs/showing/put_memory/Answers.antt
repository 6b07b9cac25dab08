use Rattle.std.proofs.Common.{rules}
use Rattle.gfx_text_writer.proofs.Grown.{row_shown}
use Rattle.gfx_text_writer.proofs.showing.put_memory.Goals as goal

pub returns-in-BindBufferMemory-clause-ok : goal.returns-in-BindBufferMemory-clause-ok
returns-in-BindBufferMemory-clause-ok g c =
    row_shown c.show-in-BindBufferMemory.result _ _ _ _ _ c.show-in-BindBufferMemory.ensures.ok (search rules)

pub returns-in-BindImageMemory-clause-ok : goal.returns-in-BindImageMemory-clause-ok
returns-in-BindImageMemory-clause-ok g c =
    row_shown c.show-in-BindImageMemory.result _ _ _ _ _ c.show-in-BindImageMemory.ensures.ok (search rules)
