use Rattle.std.proofs.Common.{Some, None, ap, sym, ◌∙◌, subst}
use Rattle.std.specs.Prelude.{flat_map}
use Rattle.std.specs.FinMap as map
use Rattle.gfx_model.specs.Questions.{Buffer}
use Rattle.gfx_model.specs.Steps.{resources_of}
use Rattle.gfx_model.specs.Checks.{layouts_of}
use Rattle.gfx_commands.specs.Uses.{IsIndex}
use Rattle.gfx_commands.proofs.Buffers.{found}
use Rattle.gfx_commands.proofs.recordings.Recordings.uses.Goals as goal

pub returns-in-Some-clause-index : goal.returns-in-Some-clause-index
returns-in-Some-clause-index c =
    let at = found c.args.self.now c.args.cb (Some c.in-Some.row.now) (ap (λ m. map.get m c.args.cb) (sym c.self.view_is) ∙ sym c.in-Some.ensures) in
    let uses = c.uses.result.now in
    let P = λ (b : Buffer). IsIndex uses.table.map uses.agrees (flat_map resources_of b.commands) (flat_map layouts_of b.commands) in
    subst P (sym at) c.uses.ensures

pub returns-in-None-clause-none : goal.returns-in-None-clause-none
returns-in-None-clause-none c = λ none.
    let at = found c.args.self.now c.args.cb None (ap (λ m. map.get m c.args.cb) (sym c.self.view_is) ∙ sym c.in-None.ensures) in
    ap (λ (b : Buffer). flat_map layouts_of b.commands) at
