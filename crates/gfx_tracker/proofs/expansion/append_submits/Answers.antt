use Rattle.std.proofs.Common.{ap, ◌∙◌, ◌++◌}
use Rattle.gfx_tracker.specs.State.{state_answers}
use Rattle.gfx_tracker.proofs.Operated.{submits_listed}
use Rattle.gfx_tracker.proofs.expansion.append_submits.Goals as goal

pub returns-clause-ok : goal.returns-clause-ok
returns-clause-ok c = λ fence.
    c.in_default.ensures.ok ∙ ap (λ more. c.args.ops.now ++ more) (submits_listed (state_answers c.args.state.now) c.args.with_layouts c.args.submits.now fence)
