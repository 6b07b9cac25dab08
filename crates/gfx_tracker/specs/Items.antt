-- The list of a command.
use Rattle.std.specs.Prelude.{ℕ, length}
use Rattle.gfx_model.specs.Events.{Event}
use Rattle.gfx_model.specs.Events.Event.{CmdPipelineBarrier, CmdUpdateBuffer, CmdCopyBuffer, CmdCopyImage, CmdCopyBufferToImage, CmdCopyImageToBuffer}

-- how many items the list of a command has, or bytes; 0 where it has none
abbrev pub items_in : Event → ℕ
items_in (CmdPipelineBarrier cb barriers) = length barriers
items_in (CmdUpdateBuffer cb buffer offset bytes) = length bytes
items_in (CmdCopyBuffer cb source target regions) = length regions
items_in (CmdCopyImage cb source source_layout target target_layout regions) = length regions
items_in (CmdCopyBufferToImage cb source target layout regions) = length regions
items_in (CmdCopyImageToBuffer cb source layout target regions) = length regions
items_in _ = 0
