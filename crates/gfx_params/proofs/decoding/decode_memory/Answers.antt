use Rattle.std.proofs.Common.{rules, ◌≡◌}
use Rattle.gfx_model.specs.Events.Event.{MapMemory, CreateBuffer, BindBufferMemory, CreateImage, BindImageMemory}
use Rattle.gfx_grammar.specs.Rows.{by_row, read_event, with4, with6}
use Rattle.gfx_params.proofs.decoding.decode_memory.Goals as goal

pub returns-in-Ok-read_whole-2 : goal.returns-in-Ok-read_whole-2
unfolding by_row read_event
returns-in-Ok-read_whole-2 c = let is : c.args.id ≡ 10 = search rules in rw is (c.in-Ok-read_whole-2.ensures (with4 MapMemory))

pub returns-in-Err-read_whole-2 : goal.returns-in-Err-read_whole-2
unfolding by_row read_event
returns-in-Err-read_whole-2 c = let is : c.args.id ≡ 10 = search rules in rw is (c.in-Err-read_whole-2.ensures (with4 MapMemory))

pub returns-in-Ok-read_whole-4 : goal.returns-in-Ok-read_whole-4
unfolding by_row read_event
returns-in-Ok-read_whole-4 c = let is : c.args.id ≡ 12 = search rules in rw is (c.in-Ok-read_whole-4.ensures (with4 CreateBuffer))

pub returns-in-Err-read_whole-4 : goal.returns-in-Err-read_whole-4
unfolding by_row read_event
returns-in-Err-read_whole-4 c = let is : c.args.id ≡ 12 = search rules in rw is (c.in-Err-read_whole-4.ensures (with4 CreateBuffer))

pub returns-in-Ok-read_whole-6 : goal.returns-in-Ok-read_whole-6
unfolding by_row read_event
returns-in-Ok-read_whole-6 c = let is : c.args.id ≡ 14 = search rules in rw is (c.in-Ok-read_whole-6.ensures (with4 BindBufferMemory))

pub returns-in-Err-read_whole-6 : goal.returns-in-Err-read_whole-6
unfolding by_row read_event
returns-in-Err-read_whole-6 c = let is : c.args.id ≡ 14 = search rules in rw is (c.in-Err-read_whole-6.ensures (with4 BindBufferMemory))

pub returns-in-Ok-read_whole-7 : goal.returns-in-Ok-read_whole-7
unfolding by_row read_event
returns-in-Ok-read_whole-7 c = let is : c.args.id ≡ 15 = search rules in rw is (c.in-Ok-read_whole-7.ensures (with6 CreateImage))

pub returns-in-Err-read_whole-7 : goal.returns-in-Err-read_whole-7
unfolding by_row read_event
returns-in-Err-read_whole-7 c = let is : c.args.id ≡ 15 = search rules in rw is (c.in-Err-read_whole-7.ensures (with6 CreateImage))

pub returns-in-Ok-read_whole-9 : goal.returns-in-Ok-read_whole-9
unfolding by_row read_event
returns-in-Ok-read_whole-9 c = let is : c.args.id ≡ 17 = search rules in rw is (c.in-Ok-read_whole-9.ensures (with4 BindImageMemory))

pub returns-in-Err-read_whole-9 : goal.returns-in-Err-read_whole-9
unfolding by_row read_event
returns-in-Err-read_whole-9 c = let is : c.args.id ≡ 17 = search rules in rw is (c.in-Err-read_whole-9.ensures (with4 BindImageMemory))
