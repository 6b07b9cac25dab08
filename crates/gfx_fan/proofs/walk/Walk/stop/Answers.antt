use Rattle.std.proofs.Common.{◌∙◌, sym, subst}
use Rattle.gfx_player.specs.Faults.{of_decoder}
use Rattle.gfx_player.proofs.Walking.{read_failed}
use Rattle.gfx_fan.proofs.Gathering.{StopsSo, stopped_so}
use Rattle.gfx_fan.proofs.Rounds.{decoder_writes, stops_reading}
use Rattle.gfx_fan.proofs.walk.Walk.stop.Goals as goal

pub returns-clause-told : goal.returns-clause-told
returns-clause-told g c was shown file middle rest before s stops =
    let k = c.args.self.now.album in
    stopped_so was k shown (of_decoder c.args.why) c.stop.result file middle rest before _ _ s stops
    (subst (λ y. StopsSo y c.stop.result k (g.K.Sink.taken c.args.sink.now) (g.K.Sink.taken c.stop.new.sink)) c.decode_fault.ensures c.stop.ensures.told)

pub returns-clause-reading : goal.returns-clause-reading
returns-clause-reading g c is =
    let k = c.args.self.now.album in
    read_failed c.args.why
    (stops_reading (of_decoder c.args.why) c.stop.result k (g.K.Sink.taken c.args.sink.now) (g.K.Sink.taken c.stop.new.sink)
    (subst (λ y. StopsSo y c.stop.result k (g.K.Sink.taken c.args.sink.now) (g.K.Sink.taken c.stop.new.sink)) c.decode_fault.ensures c.stop.ensures.told) is)

pub returns-clause-cause : goal.returns-clause-cause
returns-clause-cause g c is = c.stop.ensures.cause is (λ e. decoder_writes c.args.why (sym c.decode_fault.ensures ∙ e))
