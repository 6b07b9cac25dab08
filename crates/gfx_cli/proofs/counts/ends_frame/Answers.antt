use Rattle.std.proofs.Common.{◌==◌, sym, ap}
use Rattle.gfx_model.specs.Events.{event_of_call}
use Rattle.gfx_model.specs.Spelling.{id_of}
use Rattle.gfx_cli.proofs.Events.{other_id}
use Rattle.gfx_cli.proofs.counts.ends_frame.Goals as goal

pub returns-in-QueuePresentKHR : goal.returns-in-QueuePresentKHR
unfolding id_of
returns-in-QueuePresentKHR c = sym (ap (λ k. id_of (event_of_call k) == 48) c.in-QueuePresentKHR.is)

pub returns-in_default : goal.returns-in_default
returns-in_default c = sym (other_id c.args.call.now c.in_default.not-QueuePresentKHR)
