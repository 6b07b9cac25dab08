use Rattle.std.proofs.Common.{◌∙◌, map}
use Rattle.gfx_model.specs.Checks as words
use Rattle.gfx_rules.proofs.Joined.{framed}
use Rattle.gfx_rules.proofs.rows_queue.frame_fault.Goals as goal

pub returns : goal.returns
returns g c = let v = g.A.Answers.view c.args.answers.now in
    c.first.ensures ∙ framed v (map words.Turn.wait c.args.waits.now) _ _ (c.waits_fault-waited.ensures v.layout) c.first_broken.ensures
