use Rattle.std.proofs.Common.{rules, ◌≡◌}
use Rattle.gfx_model.specs.Events.Event.{QueueWaitIdle, DeviceWaitIdle, QueueSubmit, CreateSwapchainKHR, DestroySwapchainKHR, GetSwapchainImagesKHR, AcquireNextImageKHR}
use Rattle.gfx_grammar.specs.Rows.{with1, with2, with3, with6, with8}
use Rattle.gfx_text_grammar.specs.FieldReading.{read_field, read_made}
use Rattle.gfx_text.specs.Places.{row_at}
use Rattle.gfx_text.proofs.reading.read_swapchains.Goals as goal

pub returns-in-Ok : goal.returns-in-Ok
unfolding row_at read_field read_made
returns-in-Ok g c = let is : c.args.row ≡ 41 = search rules in rw is (c.in-Ok.ensures (with3 QueueSubmit))

pub returns-in-Err : goal.returns-in-Err
unfolding row_at read_field read_made
returns-in-Err g c = let is : c.args.row ≡ 41 = search rules in rw is (c.in-Err.ensures (with3 QueueSubmit))

pub returns-in-Ok-read_whole : goal.returns-in-Ok-read_whole
unfolding row_at read_field read_made
returns-in-Ok-read_whole g c = let is : c.args.row ≡ 44 = search rules in rw is (c.in-Ok-read_whole.ensures (with8 CreateSwapchainKHR))

pub returns-in-Err-read_whole : goal.returns-in-Err-read_whole
unfolding row_at read_field read_made
returns-in-Err-read_whole g c = let is : c.args.row ≡ 44 = search rules in rw is (c.in-Err-read_whole.ensures (with8 CreateSwapchainKHR))

pub returns-in-Ok-read_whole-2 : goal.returns-in-Ok-read_whole-2
unfolding row_at read_field read_made
returns-in-Ok-read_whole-2 g c = let is : c.args.row ≡ 45 = search rules in rw is (c.in-Ok-read_whole-2.ensures (with2 DestroySwapchainKHR))

pub returns-in-Err-read_whole-2 : goal.returns-in-Err-read_whole-2
unfolding row_at read_field read_made
returns-in-Err-read_whole-2 g c = let is : c.args.row ≡ 45 = search rules in rw is (c.in-Err-read_whole-2.ensures (with2 DestroySwapchainKHR))

pub returns-in-Ok-read_whole-3 : goal.returns-in-Ok-read_whole-3
unfolding row_at read_field read_made
returns-in-Ok-read_whole-3 g c = let is : c.args.row ≡ 46 = search rules in rw is (c.in-Ok-read_whole-3.ensures (with3 GetSwapchainImagesKHR))

pub returns-in-Err-read_whole-3 : goal.returns-in-Err-read_whole-3
unfolding row_at read_field read_made
returns-in-Err-read_whole-3 g c = let is : c.args.row ≡ 46 = search rules in rw is (c.in-Err-read_whole-3.ensures (with3 GetSwapchainImagesKHR))

pub returns-in-Ok-read_whole-4 : goal.returns-in-Ok-read_whole-4
unfolding row_at read_field read_made
returns-in-Ok-read_whole-4 g c = let is : c.args.row ≡ 47 = search rules in rw is (c.in-Ok-read_whole-4.ensures (with6 AcquireNextImageKHR))

pub returns-in-Err-read_whole-4 : goal.returns-in-Err-read_whole-4
unfolding row_at read_field read_made
returns-in-Err-read_whole-4 g c = let is : c.args.row ≡ 47 = search rules in rw is (c.in-Err-read_whole-4.ensures (with6 AcquireNextImageKHR))

pub returns-in-Ok-2 : goal.returns-in-Ok-2
unfolding row_at read_field read_made
returns-in-Ok-2 g c = let is : c.args.row ≡ 42 = search rules in rw is (c.in-Ok-2.ensures (with1 QueueWaitIdle))

pub returns-in-Ok-3 : goal.returns-in-Ok-3
unfolding row_at read_field read_made
returns-in-Ok-3 g c = let is : c.args.row ≡ 43 = search rules in rw is (c.in-Ok-3.ensures (with1 DeviceWaitIdle))
