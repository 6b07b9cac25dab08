use Rattle.std.proofs.Common.{ap, sym, ◌∙◌}
use Rattle.gfx_script.specs.Line.{phases_of}
use Rattle.gfx_script.specs.State.{read_phases}
use Rattle.gfx_script.proofs.Order.{order_back}
use Rattle.gfx_script.proofs.reading.Reading.into_script.Goals as goal

pub returns : goal.returns
returns c =
    let ended = c.in_ok-end_phase.ensures in
    (ended.same.minor, ap phases_of c.of.ensures ∙ ended.phases ∙ sym (order_back (read_phases c.args.self)))
