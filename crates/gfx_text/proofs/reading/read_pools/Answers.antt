use Rattle.std.proofs.Common.{rules, ◌≡◌}
use Rattle.gfx_model.specs.Events.Event.{EndCommandBuffer, ResetCommandBuffer, CreateCommandPool, DestroyCommandPool, ResetCommandPool, AllocateCommandBuffers, FreeCommandBuffers, BeginCommandBuffer}
use Rattle.gfx_grammar.specs.Rows.{with1, with2, with3}
use Rattle.gfx_text_grammar.specs.FieldReading.{read_field, read_made}
use Rattle.gfx_text.specs.Places.{row_at}
use Rattle.gfx_text.proofs.reading.read_pools.Goals as goal

pub returns-in-Ok : goal.returns-in-Ok
unfolding row_at read_field read_made
returns-in-Ok g c = let is : c.args.row ≡ 18 = search rules in rw is (c.in-Ok.ensures (with3 CreateCommandPool))

pub returns-in-Err : goal.returns-in-Err
unfolding row_at read_field read_made
returns-in-Err g c = let is : c.args.row ≡ 18 = search rules in rw is (c.in-Err.ensures (with3 CreateCommandPool))

pub returns-in-Ok-read_whole : goal.returns-in-Ok-read_whole
unfolding row_at read_field read_made
returns-in-Ok-read_whole g c = let is : c.args.row ≡ 19 = search rules in rw is (c.in-Ok-read_whole.ensures (with2 DestroyCommandPool))

pub returns-in-Err-read_whole : goal.returns-in-Err-read_whole
unfolding row_at read_field read_made
returns-in-Err-read_whole g c = let is : c.args.row ≡ 19 = search rules in rw is (c.in-Err-read_whole.ensures (with2 DestroyCommandPool))

pub returns-in-Ok-read_whole-2 : goal.returns-in-Ok-read_whole-2
unfolding row_at read_field read_made
returns-in-Ok-read_whole-2 g c = let is : c.args.row ≡ 20 = search rules in rw is (c.in-Ok-read_whole-2.ensures (with2 ResetCommandPool))

pub returns-in-Err-read_whole-2 : goal.returns-in-Err-read_whole-2
unfolding row_at read_field read_made
returns-in-Err-read_whole-2 g c = let is : c.args.row ≡ 20 = search rules in rw is (c.in-Err-read_whole-2.ensures (with2 ResetCommandPool))

pub returns-in-Ok-read_whole-3 : goal.returns-in-Ok-read_whole-3
unfolding row_at read_field read_made
returns-in-Ok-read_whole-3 g c = let is : c.args.row ≡ 21 = search rules in rw is (c.in-Ok-read_whole-3.ensures (with3 AllocateCommandBuffers))

pub returns-in-Err-read_whole-3 : goal.returns-in-Err-read_whole-3
unfolding row_at read_field read_made
returns-in-Err-read_whole-3 g c = let is : c.args.row ≡ 21 = search rules in rw is (c.in-Err-read_whole-3.ensures (with3 AllocateCommandBuffers))

pub returns-in-Ok-read_whole-4 : goal.returns-in-Ok-read_whole-4
unfolding row_at read_field read_made
returns-in-Ok-read_whole-4 g c = let is : c.args.row ≡ 22 = search rules in rw is (c.in-Ok-read_whole-4.ensures (with3 FreeCommandBuffers))

pub returns-in-Err-read_whole-4 : goal.returns-in-Err-read_whole-4
unfolding row_at read_field read_made
returns-in-Err-read_whole-4 g c = let is : c.args.row ≡ 22 = search rules in rw is (c.in-Err-read_whole-4.ensures (with3 FreeCommandBuffers))

pub returns-in-Ok-read_whole-5 : goal.returns-in-Ok-read_whole-5
unfolding row_at read_field read_made
returns-in-Ok-read_whole-5 g c = let is : c.args.row ≡ 23 = search rules in rw is (c.in-Ok-read_whole-5.ensures (with2 BeginCommandBuffer))

pub returns-in-Err-read_whole-5 : goal.returns-in-Err-read_whole-5
unfolding row_at read_field read_made
returns-in-Err-read_whole-5 g c = let is : c.args.row ≡ 23 = search rules in rw is (c.in-Err-read_whole-5.ensures (with2 BeginCommandBuffer))

pub returns-in-Ok-2 : goal.returns-in-Ok-2
unfolding row_at read_field read_made
returns-in-Ok-2 g c = let is : c.args.row ≡ 24 = search rules in rw is (c.in-Ok-2.ensures (with1 EndCommandBuffer))

pub returns-in-Ok-3 : goal.returns-in-Ok-3
unfolding row_at read_field read_made
returns-in-Ok-3 g c = let is : c.args.row ≡ 25 = search rules in rw is (c.in-Ok-3.ensures (with1 ResetCommandBuffer))
