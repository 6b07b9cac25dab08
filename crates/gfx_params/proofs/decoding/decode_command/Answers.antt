use Rattle.std.proofs.Common.{rules, ◌≡◌}
use Rattle.gfx_model.specs.Events.Event.{CmdFillBuffer, CmdUpdateBuffer, CmdCopyBuffer, CmdCopyImage, CmdCopyBufferToImage, CmdCopyImageToBuffer, CmdClearColorImage}
use Rattle.gfx_grammar.specs.Rows.{by_row, read_event, with4, with5, with6, with7}
use Rattle.gfx_params.proofs.decoding.decode_command.Goals as goal

pub returns-in-Ok-read_whole : goal.returns-in-Ok-read_whole
unfolding by_row read_event
returns-in-Ok-read_whole c = let is : c.args.id ≡ 27 = search rules in rw is (c.in-Ok-read_whole.ensures (with5 CmdFillBuffer))

pub returns-in-Err-read_whole : goal.returns-in-Err-read_whole
unfolding by_row read_event
returns-in-Err-read_whole c = let is : c.args.id ≡ 27 = search rules in rw is (c.in-Err-read_whole.ensures (with5 CmdFillBuffer))

pub returns-in-Ok-read_whole-2 : goal.returns-in-Ok-read_whole-2
unfolding by_row read_event
returns-in-Ok-read_whole-2 c = let is : c.args.id ≡ 28 = search rules in rw is (c.in-Ok-read_whole-2.ensures (with4 CmdUpdateBuffer))

pub returns-in-Err-read_whole-2 : goal.returns-in-Err-read_whole-2
unfolding by_row read_event
returns-in-Err-read_whole-2 c = let is : c.args.id ≡ 28 = search rules in rw is (c.in-Err-read_whole-2.ensures (with4 CmdUpdateBuffer))

pub returns-in-Ok-read_whole-3 : goal.returns-in-Ok-read_whole-3
unfolding by_row read_event
returns-in-Ok-read_whole-3 c = let is : c.args.id ≡ 29 = search rules in rw is (c.in-Ok-read_whole-3.ensures (with4 CmdCopyBuffer))

pub returns-in-Err-read_whole-3 : goal.returns-in-Err-read_whole-3
unfolding by_row read_event
returns-in-Err-read_whole-3 c = let is : c.args.id ≡ 29 = search rules in rw is (c.in-Err-read_whole-3.ensures (with4 CmdCopyBuffer))

pub returns-in-Ok-read_whole-4 : goal.returns-in-Ok-read_whole-4
unfolding by_row read_event
returns-in-Ok-read_whole-4 c = let is : c.args.id ≡ 30 = search rules in rw is (c.in-Ok-read_whole-4.ensures (with6 CmdCopyImage))

pub returns-in-Err-read_whole-4 : goal.returns-in-Err-read_whole-4
unfolding by_row read_event
returns-in-Err-read_whole-4 c = let is : c.args.id ≡ 30 = search rules in rw is (c.in-Err-read_whole-4.ensures (with6 CmdCopyImage))

pub returns-in-Ok-read_whole-5 : goal.returns-in-Ok-read_whole-5
unfolding by_row read_event
returns-in-Ok-read_whole-5 c = let is : c.args.id ≡ 31 = search rules in rw is (c.in-Ok-read_whole-5.ensures (with5 CmdCopyBufferToImage))

pub returns-in-Err-read_whole-5 : goal.returns-in-Err-read_whole-5
unfolding by_row read_event
returns-in-Err-read_whole-5 c = let is : c.args.id ≡ 31 = search rules in rw is (c.in-Err-read_whole-5.ensures (with5 CmdCopyBufferToImage))

pub returns-in-Ok-read_whole-6 : goal.returns-in-Ok-read_whole-6
unfolding by_row read_event
returns-in-Ok-read_whole-6 c = let is : c.args.id ≡ 32 = search rules in rw is (c.in-Ok-read_whole-6.ensures (with5 CmdCopyImageToBuffer))

pub returns-in-Err-read_whole-6 : goal.returns-in-Err-read_whole-6
unfolding by_row read_event
returns-in-Err-read_whole-6 c = let is : c.args.id ≡ 32 = search rules in rw is (c.in-Err-read_whole-6.ensures (with5 CmdCopyImageToBuffer))

pub returns-in-Ok-read_whole-7 : goal.returns-in-Ok-read_whole-7
unfolding by_row read_event
returns-in-Ok-read_whole-7 c = let is : c.args.id ≡ 33 = search rules in rw is (c.in-Ok-read_whole-7.ensures (with7 CmdClearColorImage))

pub returns-in-Err-read_whole-7 : goal.returns-in-Err-read_whole-7
unfolding by_row read_event
returns-in-Err-read_whole-7 c = let is : c.args.id ≡ 33 = search rules in rw is (c.in-Err-read_whole-7.ensures (with7 CmdClearColorImage))
