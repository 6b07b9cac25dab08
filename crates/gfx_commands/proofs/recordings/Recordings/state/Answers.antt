use Rattle.std.proofs.Common.{Some, None, ap, sym, ◌∙◌}
use Rattle.std.specs.FinMap as map
use Rattle.gfx_model.specs.Questions.{Buffer}
use Rattle.gfx_commands.proofs.Buffers.{found}
use Rattle.gfx_commands.proofs.recordings.Recordings.state.Goals as goal

pub returns-in-Some : goal.returns-in-Some
returns-in-Some c =
    let at = found c.args.self.now c.args.cb (Some c.in-Some.row.now) (ap (λ m. map.get m c.args.cb) (sym c.self.view_is) ∙ sym c.in-Some.ensures) in
    sym (ap (λ (b : Buffer). b.state) at)

pub returns-in-None : goal.returns-in-None
returns-in-None c =
    let at = found c.args.self.now c.args.cb None (ap (λ m. map.get m c.args.cb) (sym c.self.view_is) ∙ sym c.in-None.ensures) in
    sym (ap (λ (b : Buffer). b.state) at)
