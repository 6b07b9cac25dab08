use Rattle.std.proofs.Common.{sym, subst}
use Rattle.gfx_recording.specs.Records.{Writes}
use Rattle.gfx_recording.proofs.outcome.write_left.Goals as goal

pub returns-in-Refused-clause-wrote : goal.returns-in-Refused-clause-wrote
returns-in-Refused-clause-wrote g c =
    subst (λ o. Writes c.args.asked (g.K.Sink.taken c.args.sink.now) (g.K.Sink.taken c.write_halted.new.sink) o c.write_halted.result) (sym c.in-Refused.is) c.write_halted.ensures.wrote

pub returns-in-LogFull-clause-wrote : goal.returns-in-LogFull-clause-wrote
returns-in-LogFull-clause-wrote g c =
    subst (λ o. Writes c.args.asked (g.K.Sink.taken c.args.sink.now) (g.K.Sink.taken c.write_halted-in-LogFull.new.sink) o c.write_halted-in-LogFull.result)
    (sym c.in-LogFull.is) c.write_halted-in-LogFull.ensures.wrote
