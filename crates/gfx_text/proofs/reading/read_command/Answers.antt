use Rattle.std.proofs.Common.{rules, ◌≡◌}
use Rattle.gfx_model.specs.Events.Event.{CmdPipelineBarrier, CmdFillBuffer, CmdUpdateBuffer, CmdCopyBuffer, CmdCopyImage, CmdCopyBufferToImage, CmdCopyImageToBuffer, CmdClearColorImage}
use Rattle.gfx_grammar.specs.Rows.{with2, with4, with5, with6, with7}
use Rattle.gfx_text_grammar.specs.FieldReading.{read_field}
use Rattle.gfx_text.specs.Places.{row_at}
use Rattle.gfx_text.proofs.reading.read_command.Goals as goal

pub returns-in-Ok : goal.returns-in-Ok
unfolding row_at read_field
returns-in-Ok g c = let is : c.args.row ≡ 26 = search rules in rw is (c.in-Ok.ensures (with2 CmdPipelineBarrier))

pub returns-in-Err : goal.returns-in-Err
unfolding row_at read_field
returns-in-Err g c = let is : c.args.row ≡ 26 = search rules in rw is (c.in-Err.ensures (with2 CmdPipelineBarrier))

pub returns-in-Ok-read_whole : goal.returns-in-Ok-read_whole
unfolding row_at read_field
returns-in-Ok-read_whole g c = let is : c.args.row ≡ 27 = search rules in rw is (c.in-Ok-read_whole.ensures (with5 CmdFillBuffer))

pub returns-in-Err-read_whole : goal.returns-in-Err-read_whole
unfolding row_at read_field
returns-in-Err-read_whole g c = let is : c.args.row ≡ 27 = search rules in rw is (c.in-Err-read_whole.ensures (with5 CmdFillBuffer))

pub returns-in-Ok-read_whole-2 : goal.returns-in-Ok-read_whole-2
unfolding row_at read_field
returns-in-Ok-read_whole-2 g c = let is : c.args.row ≡ 28 = search rules in rw (is, c.keep.ensures) (c.in-Ok-read_whole-2.ensures (with4 CmdUpdateBuffer))

pub returns-in-Err-read_whole-2 : goal.returns-in-Err-read_whole-2
unfolding row_at read_field
returns-in-Err-read_whole-2 g c = let is : c.args.row ≡ 28 = search rules in rw is (c.in-Err-read_whole-2.ensures (with4 CmdUpdateBuffer))

pub returns-in-Ok-read_whole-3 : goal.returns-in-Ok-read_whole-3
unfolding row_at read_field
returns-in-Ok-read_whole-3 g c = let is : c.args.row ≡ 29 = search rules in rw is (c.in-Ok-read_whole-3.ensures (with4 CmdCopyBuffer))

pub returns-in-Err-read_whole-3 : goal.returns-in-Err-read_whole-3
unfolding row_at read_field
returns-in-Err-read_whole-3 g c = let is : c.args.row ≡ 29 = search rules in rw is (c.in-Err-read_whole-3.ensures (with4 CmdCopyBuffer))

pub returns-in-Ok-read_whole-4 : goal.returns-in-Ok-read_whole-4
unfolding row_at read_field
returns-in-Ok-read_whole-4 g c = let is : c.args.row ≡ 30 = search rules in rw is (c.in-Ok-read_whole-4.ensures (with6 CmdCopyImage))

pub returns-in-Err-read_whole-4 : goal.returns-in-Err-read_whole-4
unfolding row_at read_field
returns-in-Err-read_whole-4 g c = let is : c.args.row ≡ 30 = search rules in rw is (c.in-Err-read_whole-4.ensures (with6 CmdCopyImage))

pub returns-in-Ok-read_whole-5 : goal.returns-in-Ok-read_whole-5
unfolding row_at read_field
returns-in-Ok-read_whole-5 g c = let is : c.args.row ≡ 31 = search rules in rw is (c.in-Ok-read_whole-5.ensures (with5 CmdCopyBufferToImage))

pub returns-in-Err-read_whole-5 : goal.returns-in-Err-read_whole-5
unfolding row_at read_field
returns-in-Err-read_whole-5 g c = let is : c.args.row ≡ 31 = search rules in rw is (c.in-Err-read_whole-5.ensures (with5 CmdCopyBufferToImage))

pub returns-in-Ok-read_whole-6 : goal.returns-in-Ok-read_whole-6
unfolding row_at read_field
returns-in-Ok-read_whole-6 g c = let is : c.args.row ≡ 32 = search rules in rw is (c.in-Ok-read_whole-6.ensures (with5 CmdCopyImageToBuffer))

pub returns-in-Err-read_whole-6 : goal.returns-in-Err-read_whole-6
unfolding row_at read_field
returns-in-Err-read_whole-6 g c = let is : c.args.row ≡ 32 = search rules in rw is (c.in-Err-read_whole-6.ensures (with5 CmdCopyImageToBuffer))

pub returns-in-Ok-read_whole-7 : goal.returns-in-Ok-read_whole-7
unfolding row_at read_field
returns-in-Ok-read_whole-7 g c = let is : c.args.row ≡ 33 = search rules in rw is (c.in-Ok-read_whole-7.ensures (with7 CmdClearColorImage))

pub returns-in-Err-read_whole-7 : goal.returns-in-Err-read_whole-7
unfolding row_at read_field
returns-in-Err-read_whole-7 g c = let is : c.args.row ≡ 33 = search rules in rw is (c.in-Err-read_whole-7.ensures (with7 CmdClearColorImage))
