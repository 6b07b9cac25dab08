use Rattle.std.proofs.Common.{ℕ, List, ap, ◌∙◌}
use Rattle.std.specs.List.{list_any}
use Rattle.std.proofs.lemmas.List.{take_all}
use Rattle.gfx_model.specs.Questions.{Buffer, invalidated}
use Rattle.gfx_commands.specs.Recording.{names}
use Rattle.gfx_commands.specs.Recordings.{buffers}
use Rattle.gfx_tracker.proofs.Eaching.{invalid_more}
use Rattle.gfx_tracker.proofs.state.invalidate_each.Goals as goal

pub resources-preserved : goal.resources-preserved
resources-preserved c =
    invalid_more (buffers c.args.recordings.now) (buffers c.resources.recordings) (buffers c.invalidate_users.new.self) c.args.resources.now c.resources.resource-index c.resources-test.true
    c.resources.invariant c.invalidate_users.ensures

pub returns : goal.returns
returns c =
    c.resources.invariant
    ∙ ap {B = ℕ → Buffer} (λ (xs : List ℕ) x. invalidated (list_any (λ r. names r (buffers c.args.recordings.now x)) xs) (buffers c.args.recordings.now x))
    (take_all c.resources.resource-index c.args.resources.now c.resources-test.false)
