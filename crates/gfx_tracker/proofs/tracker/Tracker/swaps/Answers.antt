use Rattle.gfx_tracker.specs.Tracker.{answers}
use Rattle.gfx_tracker.proofs.Flagged.{marks_counted}
use Rattle.gfx_tracker.proofs.tracker.Tracker.swaps.Goals as goal

pub returns-clause-images : goal.returns-clause-images
unfolding answers
returns-clause-images c = λ swapchain. let r = c.args.self.now.state.registry in marks_counted r.objects r.signals r.images r.kept swapchain
