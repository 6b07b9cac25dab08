use Rattle.std.proofs.Common.{ap, sym, ◌∙◌}
use Rattle.gfx_commands.specs.Laid.{laid_by, left_by}
use Rattle.gfx_commands.proofs.Leaving.{left_all}
use Rattle.gfx_commands.proofs.laid.Laid.leave.Goals as goal

pub returns : goal.returns
returns c = λ layout now is whole.
    let uses = c.args.uses.now.table.map in
    let ids = c.ids-ids.result.now in
    let was = is (sym c.set_left.ensures.whole ∙ whole) ∙ ap (λ m. laid_by m layout) (sym c.reserve.ensures.map) in
    sym (left_all uses now ids c.ids-ids.ensures) ∙ ap (λ f. left_by uses f ids) was ∙ sym (c.set_left.ensures.set layout)
