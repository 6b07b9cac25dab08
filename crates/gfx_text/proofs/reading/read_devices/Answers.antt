use Rattle.std.proofs.Common.{rules, ◌≡◌}
use Rattle.gfx_model.specs.Events.Event.{CreateInstance, CreateHeadlessSurfaceEXT, DestroySurfaceKHR, CreateDevice, GetDeviceQueue}
use Rattle.gfx_grammar.specs.Rows.{with2}
use Rattle.gfx_text_grammar.specs.FieldReading.{read_field, read_made}
use Rattle.gfx_text.specs.Places.{row_at}
use Rattle.gfx_text.proofs.reading.read_devices.Goals as goal

pub returns-in-Ok : goal.returns-in-Ok
unfolding row_at read_field read_made
returns-in-Ok g c = let is : c.args.row ≡ 1 = search rules in rw is (c.in-Ok.ensures (with2 CreateInstance))

pub returns-in-Err : goal.returns-in-Err
unfolding row_at read_field read_made
returns-in-Err g c = let is : c.args.row ≡ 1 = search rules in rw is (c.in-Err.ensures (with2 CreateInstance))

pub returns-in-Ok-read_whole : goal.returns-in-Ok-read_whole
unfolding row_at read_field read_made
returns-in-Ok-read_whole g c = let is : c.args.row ≡ 3 = search rules in rw is (c.in-Ok-read_whole.ensures (with2 CreateHeadlessSurfaceEXT))

pub returns-in-Err-read_whole : goal.returns-in-Err-read_whole
unfolding row_at read_field read_made
returns-in-Err-read_whole g c = let is : c.args.row ≡ 3 = search rules in rw is (c.in-Err-read_whole.ensures (with2 CreateHeadlessSurfaceEXT))

pub returns-in-Ok-read_whole-2 : goal.returns-in-Ok-read_whole-2
unfolding row_at read_field read_made
returns-in-Ok-read_whole-2 g c = let is : c.args.row ≡ 4 = search rules in rw is (c.in-Ok-read_whole-2.ensures (with2 DestroySurfaceKHR))

pub returns-in-Err-read_whole-2 : goal.returns-in-Err-read_whole-2
unfolding row_at read_field read_made
returns-in-Err-read_whole-2 g c = let is : c.args.row ≡ 4 = search rules in rw is (c.in-Err-read_whole-2.ensures (with2 DestroySurfaceKHR))

pub returns-in-Ok-read_whole-3 : goal.returns-in-Ok-read_whole-3
unfolding row_at read_field read_made
returns-in-Ok-read_whole-3 g c = let is : c.args.row ≡ 5 = search rules in rw is (c.in-Ok-read_whole-3.ensures (with2 CreateDevice))

pub returns-in-Err-read_whole-3 : goal.returns-in-Err-read_whole-3
unfolding row_at read_field read_made
returns-in-Err-read_whole-3 g c = let is : c.args.row ≡ 5 = search rules in rw is (c.in-Err-read_whole-3.ensures (with2 CreateDevice))

pub returns-in-Ok-read_whole-4 : goal.returns-in-Ok-read_whole-4
unfolding row_at read_field read_made
returns-in-Ok-read_whole-4 g c = let is : c.args.row ≡ 7 = search rules in rw is (c.in-Ok-read_whole-4.ensures (with2 GetDeviceQueue))

pub returns-in-Err-read_whole-4 : goal.returns-in-Err-read_whole-4
unfolding row_at read_field read_made
returns-in-Err-read_whole-4 g c = let is : c.args.row ≡ 7 = search rules in rw is (c.in-Err-read_whole-4.ensures (with2 GetDeviceQueue))
