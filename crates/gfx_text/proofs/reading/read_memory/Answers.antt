use Rattle.std.proofs.Common.{rules, ◌≡◌}
use Rattle.gfx_model.specs.Events.Event.{AllocateMemory, FreeMemory, MapMemory, UnmapMemory, CreateBuffer, DestroyBuffer, BindBufferMemory, CreateImage, DestroyImage, BindImageMemory}
use Rattle.gfx_grammar.specs.Rows.{with2, with3, with4, with6}
use Rattle.gfx_text_grammar.specs.FieldReading.{read_field, read_made}
use Rattle.gfx_text.specs.Places.{row_at}
use Rattle.gfx_text.proofs.reading.read_memory.Goals as goal

pub returns-in-Ok : goal.returns-in-Ok
unfolding row_at read_field read_made
returns-in-Ok g c = let is : c.args.row ≡ 8 = search rules in rw is (c.in-Ok.ensures (with3 AllocateMemory))

pub returns-in-Err : goal.returns-in-Err
unfolding row_at read_field read_made
returns-in-Err g c = let is : c.args.row ≡ 8 = search rules in rw is (c.in-Err.ensures (with3 AllocateMemory))

pub returns-in-Ok-read_whole : goal.returns-in-Ok-read_whole
unfolding row_at read_field read_made
returns-in-Ok-read_whole g c = let is : c.args.row ≡ 9 = search rules in rw is (c.in-Ok-read_whole.ensures (with2 FreeMemory))

pub returns-in-Err-read_whole : goal.returns-in-Err-read_whole
unfolding row_at read_field read_made
returns-in-Err-read_whole g c = let is : c.args.row ≡ 9 = search rules in rw is (c.in-Err-read_whole.ensures (with2 FreeMemory))

pub returns-in-Ok-read_whole-2 : goal.returns-in-Ok-read_whole-2
unfolding row_at read_field read_made
returns-in-Ok-read_whole-2 g c = let is : c.args.row ≡ 10 = search rules in rw is (c.in-Ok-read_whole-2.ensures (with4 MapMemory))

pub returns-in-Err-read_whole-2 : goal.returns-in-Err-read_whole-2
unfolding row_at read_field read_made
returns-in-Err-read_whole-2 g c = let is : c.args.row ≡ 10 = search rules in rw is (c.in-Err-read_whole-2.ensures (with4 MapMemory))

pub returns-in-Ok-read_whole-3 : goal.returns-in-Ok-read_whole-3
unfolding row_at read_field read_made
returns-in-Ok-read_whole-3 g c = let is : c.args.row ≡ 11 = search rules in rw is (c.in-Ok-read_whole-3.ensures (with2 UnmapMemory))

pub returns-in-Err-read_whole-3 : goal.returns-in-Err-read_whole-3
unfolding row_at read_field read_made
returns-in-Err-read_whole-3 g c = let is : c.args.row ≡ 11 = search rules in rw is (c.in-Err-read_whole-3.ensures (with2 UnmapMemory))

pub returns-in-Ok-read_whole-4 : goal.returns-in-Ok-read_whole-4
unfolding row_at read_field read_made
returns-in-Ok-read_whole-4 g c = let is : c.args.row ≡ 12 = search rules in rw is (c.in-Ok-read_whole-4.ensures (with4 CreateBuffer))

pub returns-in-Err-read_whole-4 : goal.returns-in-Err-read_whole-4
unfolding row_at read_field read_made
returns-in-Err-read_whole-4 g c = let is : c.args.row ≡ 12 = search rules in rw is (c.in-Err-read_whole-4.ensures (with4 CreateBuffer))

pub returns-in-Ok-read_whole-5 : goal.returns-in-Ok-read_whole-5
unfolding row_at read_field read_made
returns-in-Ok-read_whole-5 g c = let is : c.args.row ≡ 13 = search rules in rw is (c.in-Ok-read_whole-5.ensures (with2 DestroyBuffer))

pub returns-in-Err-read_whole-5 : goal.returns-in-Err-read_whole-5
unfolding row_at read_field read_made
returns-in-Err-read_whole-5 g c = let is : c.args.row ≡ 13 = search rules in rw is (c.in-Err-read_whole-5.ensures (with2 DestroyBuffer))

pub returns-in-Ok-read_whole-6 : goal.returns-in-Ok-read_whole-6
unfolding row_at read_field read_made
returns-in-Ok-read_whole-6 g c = let is : c.args.row ≡ 14 = search rules in rw is (c.in-Ok-read_whole-6.ensures (with4 BindBufferMemory))

pub returns-in-Err-read_whole-6 : goal.returns-in-Err-read_whole-6
unfolding row_at read_field read_made
returns-in-Err-read_whole-6 g c = let is : c.args.row ≡ 14 = search rules in rw is (c.in-Err-read_whole-6.ensures (with4 BindBufferMemory))

pub returns-in-Ok-read_whole-7 : goal.returns-in-Ok-read_whole-7
unfolding row_at read_field read_made
returns-in-Ok-read_whole-7 g c = let is : c.args.row ≡ 15 = search rules in rw is (c.in-Ok-read_whole-7.ensures (with6 CreateImage))

pub returns-in-Err-read_whole-7 : goal.returns-in-Err-read_whole-7
unfolding row_at read_field read_made
returns-in-Err-read_whole-7 g c = let is : c.args.row ≡ 15 = search rules in rw is (c.in-Err-read_whole-7.ensures (with6 CreateImage))

pub returns-in-Ok-read_whole-8 : goal.returns-in-Ok-read_whole-8
unfolding row_at read_field read_made
returns-in-Ok-read_whole-8 g c = let is : c.args.row ≡ 16 = search rules in rw is (c.in-Ok-read_whole-8.ensures (with2 DestroyImage))

pub returns-in-Err-read_whole-8 : goal.returns-in-Err-read_whole-8
unfolding row_at read_field read_made
returns-in-Err-read_whole-8 g c = let is : c.args.row ≡ 16 = search rules in rw is (c.in-Err-read_whole-8.ensures (with2 DestroyImage))

pub returns-in-Ok-read_whole-9 : goal.returns-in-Ok-read_whole-9
unfolding row_at read_field read_made
returns-in-Ok-read_whole-9 g c = let is : c.args.row ≡ 17 = search rules in rw is (c.in-Ok-read_whole-9.ensures (with4 BindImageMemory))

pub returns-in-Err-read_whole-9 : goal.returns-in-Err-read_whole-9
unfolding row_at read_field read_made
returns-in-Err-read_whole-9 g c = let is : c.args.row ≡ 17 = search rules in rw is (c.in-Err-read_whole-9.ensures (with4 BindImageMemory))
