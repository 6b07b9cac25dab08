use Rattle.std.proofs.Common.{arith, rules}
use Rattle.std.proofs.lemmas.Grind.{common_steps}
use Rattle.gfx_text_writer.proofs.Grown.{row_shown}
use Rattle.gfx_text_writer.proofs.showing.put_commands.Goals as goal

pub returns-in-CmdPipelineBarrier-clause-ok : goal.returns-in-CmdPipelineBarrier-clause-ok
returns-in-CmdPipelineBarrier-clause-ok g c =
    row_shown c.show.result _ _ _ _ _ c.show.ensures.ok (search rules)

pub returns-in-CmdCopyBuffer-clause-ok : goal.returns-in-CmdCopyBuffer-clause-ok
returns-in-CmdCopyBuffer-clause-ok g c =
    row_shown c.show-in-CmdCopyBuffer.result _ _ _ _ _ c.show-in-CmdCopyBuffer.ensures.ok (grind (arith, common_steps))

pub returns-in-CmdCopyImage-clause-ok : goal.returns-in-CmdCopyImage-clause-ok
returns-in-CmdCopyImage-clause-ok g c =
    row_shown c.show-in-CmdCopyImage.result _ _ _ _ _ c.show-in-CmdCopyImage.ensures.ok (grind (arith, common_steps))
