use Rattle.std.proofs.Common.{rules, ◌≡◌}
use Rattle.gfx_model.specs.Events.Event.{CreateSwapchainKHR, AcquireNextImageKHR}
use Rattle.gfx_grammar.specs.Rows.{by_row, read_event, with6, with8}
use Rattle.gfx_params.proofs.decoding.decode_swapchains.Goals as goal

pub returns-in-Ok-read_whole : goal.returns-in-Ok-read_whole
unfolding by_row read_event
returns-in-Ok-read_whole c = let is : c.args.id ≡ 44 = search rules in rw is (c.in-Ok-read_whole.ensures (with8 CreateSwapchainKHR))

pub returns-in-Err-read_whole : goal.returns-in-Err-read_whole
unfolding by_row read_event
returns-in-Err-read_whole c = let is : c.args.id ≡ 44 = search rules in rw is (c.in-Err-read_whole.ensures (with8 CreateSwapchainKHR))

pub returns-in-Ok-read_whole-4 : goal.returns-in-Ok-read_whole-4
unfolding by_row read_event
returns-in-Ok-read_whole-4 c = let is : c.args.id ≡ 47 = search rules in rw is (c.in-Ok-read_whole-4.ensures (with6 AcquireNextImageKHR))

pub returns-in-Err-read_whole-4 : goal.returns-in-Err-read_whole-4
unfolding by_row read_event
returns-in-Err-read_whole-4 c = let is : c.args.id ≡ 47 = search rules in rw is (c.in-Err-read_whole-4.ensures (with6 AcquireNextImageKHR))
