use Rattle.gfx_shadow.proofs.StretchBytes.{first_run}
use Rattle.gfx_shadow.proofs.stretch.Stretch.first.Goals as goal

pub returns : goal.returns
returns c =
    let run = c.run_end.ensures in
    first_run c.args.self.now c.run_end.result c.part.result.now run.some run.inside run.window run.ends c.part.ensures.length c.part.ensures.same
