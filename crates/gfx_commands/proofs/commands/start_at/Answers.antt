use Rattle.std.proofs.Common.{◌≡◌, ◌+◌, ◌-◌, ap, sym, ◌∙◌, add-one, arith}
use Rattle.gfx_commands.specs.Commands.{start_at}
use Rattle.gfx_commands.proofs.Cuts.{start_before}
use Rattle.gfx_commands.proofs.commands.start_at.Goals as goal

pub returns-else-at-eq0 : goal.returns-else-at-eq0
returns-else-at-eq0 c =
    let k = c.args.at - 1 in
    let at : k + 1 ≡ c.args.at = omega arith in
    start_before 0 c.args.commands.now k _ (omega arith) ∙ ap (start_at 0 c.args.commands.now) (sym (add-one k) ∙ at)
