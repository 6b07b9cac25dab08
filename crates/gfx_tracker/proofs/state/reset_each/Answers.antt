use Rattle.std.proofs.Common.{◌==◌, ℕ, List, if◌then◌else◌, ap, ◌∙◌}
use Rattle.std.specs.List.{list_any}
use Rattle.std.proofs.lemmas.List.{take_all}
use Rattle.gfx_model.specs.Questions.{Buffer, new_buffer}
use Rattle.gfx_commands.specs.Recordings.{buffers}
use Rattle.gfx_tracker.proofs.Eaching.{reset_more}
use Rattle.gfx_tracker.proofs.state.reset_each.Goals as goal

pub cbs-preserved : goal.cbs-preserved
cbs-preserved c =
    reset_more (buffers c.args.recordings.now) (buffers c.cbs.recordings) (buffers c.reset.new.self) c.args.cbs.now c.cbs.cb-index c.cbs-test.true c.cbs.invariant c.reset.ensures

pub returns : goal.returns
returns c =
    c.cbs.invariant
    ∙ ap {B = ℕ → Buffer} (λ (xs : List ℕ) x. if list_any (λ cb. cb == x) xs then new_buffer else buffers c.args.recordings.now x) (take_all c.cbs.cb-index c.args.cbs.now c.cbs-test.false)
