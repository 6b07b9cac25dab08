use Rattle.std.proofs.Common.{None}
use Rattle.gfx_model.specs.Checks.{broken, first}
use Rattle.gfx_model.specs.Checks as words
use Rattle.gfx_rules.proofs.Near.{still_first}
use Rattle.gfx_rules.proofs.resources.used_fault.Goals as goal

pub returns-in-Err : goal.returns-in-Err
returns-in-Err g c =
    let v = g.A.Answers.view c.args.answers.now in
    still_first (broken v (words.live c.args.kind c.args.id)) (broken v (words.near c.args.id c.args.cb)) (broken v (words.usable c.args.id))
    (first (broken v (words.may_use c.args.id c.args.bit)) None) c.in-Err.fault c.in-Err.ensures.fault
