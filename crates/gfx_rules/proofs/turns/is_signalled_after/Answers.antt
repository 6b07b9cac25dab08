use Rattle.std.proofs.Common.{◌∙◌, sym, ap, take, arith}
use Rattle.gfx_rules.specs.Turns.{signals_behind}
use Rattle.gfx_rules.proofs.Signals.{behind_more}
use Rattle.gfx_rules.proofs.turns.is_signalled_after.Goals as goal

pub submits-preserved : goal.submits-preserved
submits-preserved g c = let f = (g.A.Answers.view c.args.answers.now).signalled in
    c.is_left_by-is.ensures (signals_behind f (take c.submits.submit-index c.args.submits.now)) c.submits.invariant
    ∙ sym (ap (λ s. s c.args.id) (behind_more f c.args.submits.now c.submits.submit-index c.submit-item.result (omega arith) c.submit-item.is))
