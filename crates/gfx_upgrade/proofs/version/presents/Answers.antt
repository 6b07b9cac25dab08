use Rattle.std.proofs.Common.{sym, ap}
use Rattle.gfx_model.specs.Events.{event_of_call}
use Rattle.gfx_upgrade.specs.Upgraded.{is_present}
use Rattle.gfx_upgrade.proofs.UpgradedLaws.{other_call}
use Rattle.gfx_upgrade.proofs.version.presents.Goals as goal

pub returns-in-QueuePresentKHR : goal.returns-in-QueuePresentKHR
returns-in-QueuePresentKHR c = sym (ap (λ k. is_present (event_of_call k)) c.in-QueuePresentKHR.is)

pub returns-in_default : goal.returns-in_default
returns-in_default c = sym (other_call c.args.call.now c.in_default.not-QueuePresentKHR)
