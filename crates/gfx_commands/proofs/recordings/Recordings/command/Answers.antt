use Rattle.std.proofs.Common.{Some, None, ap, sym, ◌∙◌}
use Rattle.std.specs.Prelude.{slice_get}
use Rattle.std.specs.FinMap as map
use Rattle.gfx_model.specs.Questions.{Buffer}
use Rattle.gfx_commands.proofs.Buffers.{found}
use Rattle.gfx_commands.proofs.recordings.Recordings.command.Goals as goal

pub returns-in-Some-clause-item : goal.returns-in-Some-clause-item
returns-in-Some-clause-item c =
    let at = found c.args.self.now c.args.cb (Some c.in-Some.row.now) (ap (λ m. map.get m c.args.cb) (sym c.self.view_is) ∙ sym c.in-Some.ensures) in
    c.get-in-Some.ensures.item ∙ sym (ap (λ (b : Buffer). slice_get b.commands c.args.k) at)

pub returns-in-None-clause-item : goal.returns-in-None-clause-item
returns-in-None-clause-item c =
    let at = found c.args.self.now c.args.cb None (ap (λ m. map.get m c.args.cb) (sym c.self.view_is) ∙ sym c.in-None.ensures) in
    sym (ap (λ (b : Buffer). slice_get b.commands c.args.k) at)
