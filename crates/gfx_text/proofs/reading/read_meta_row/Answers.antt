use Rattle.std.proofs.Common.{rules, ◌≡◌}
use Rattle.gfx_model.specs.Events.Event.{FillMemory, InitImage, SetSwapchainState, SetSemaphoreState}
use Rattle.gfx_grammar.specs.Rows.{with2, with3}
use Rattle.gfx_text_grammar.specs.FieldReading.{read_field}
use Rattle.gfx_text.specs.Places.{row_at}
use Rattle.gfx_text.proofs.reading.read_meta_row.Goals as goal

pub returns-in-Ok : goal.returns-in-Ok
unfolding row_at read_field
returns-in-Ok g c = let is : c.args.row ≡ 2 = search rules in rw (is, c.keep.ensures) (c.in-Ok.ensures (with3 FillMemory))

pub returns-in-Err : goal.returns-in-Err
unfolding row_at read_field
returns-in-Err g c = let is : c.args.row ≡ 2 = search rules in rw is (c.in-Err.ensures (with3 FillMemory))

pub returns-in-Ok-read_whole : goal.returns-in-Ok-read_whole
unfolding row_at read_field
returns-in-Ok-read_whole g c = let is : c.args.row ≡ 3 = search rules in rw (is, c.keep-in-Ok-read_whole.ensures) (c.in-Ok-read_whole.ensures (with3 InitImage))

pub returns-in-Err-read_whole : goal.returns-in-Err-read_whole
unfolding row_at read_field
returns-in-Err-read_whole g c = let is : c.args.row ≡ 3 = search rules in rw is (c.in-Err-read_whole.ensures (with3 InitImage))

pub returns-in-Ok-read_whole-2 : goal.returns-in-Ok-read_whole-2
unfolding row_at read_field
returns-in-Ok-read_whole-2 g c = let is : c.args.row ≡ 4 = search rules in rw is (c.in-Ok-read_whole-2.ensures (with2 SetSwapchainState))

pub returns-in-Err-read_whole-2 : goal.returns-in-Err-read_whole-2
unfolding row_at read_field
returns-in-Err-read_whole-2 g c = let is : c.args.row ≡ 4 = search rules in rw is (c.in-Err-read_whole-2.ensures (with2 SetSwapchainState))

pub returns-in-Ok-read_whole-3 : goal.returns-in-Ok-read_whole-3
unfolding row_at read_field
returns-in-Ok-read_whole-3 g c = let is : c.args.row ≡ 5 = search rules in rw is (c.in-Ok-read_whole-3.ensures (with2 SetSemaphoreState))

pub returns-in-Err-read_whole-3 : goal.returns-in-Err-read_whole-3
unfolding row_at read_field
returns-in-Err-read_whole-3 g c = let is : c.args.row ≡ 5 = search rules in rw is (c.in-Err-read_whole-3.ensures (with2 SetSemaphoreState))
