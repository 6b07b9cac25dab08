use Rattle.std.proofs.Common.{sym, subst}
use Rattle.std.specs.Io.KnownBytes.{Appends}
use Rattle.gfx_io.specs.Pieces.{AppendsPart}
use Rattle.gfx_replay.specs.Replayer.{StandsFor}
use Rattle.gfx_player.specs.Fed.{history_of}
use Rattle.gfx_trim.specs.Cutters.{opening}
use Rattle.gfx_io.proofs.Appending.{appends_then, part_of, part_then}
use Rattle.gfx_trim.proofs.Taking.{still_ok}
use Rattle.gfx_trim.proofs.cutter.Cutter.begin.Goals as goal

pub returns-in_err-write_opening-clause-front : goal.returns-in_err-write_opening-clause-front
returns-in_err-write_opening-clause-front g c fed was =
    let s = c.args.self.now in
    part_of _ _ (opening s.minor (history_of fed) s.first s.kept.items) c.args.raw.now.bytes.now
    (subst (λ k. AppendsPart (g.K.Sink.taken c.args.sink.now) (g.K.Sink.taken c.write_opening.new.sink) (opening s.minor (history_of fed) s.first k)) c.deref.ensures.value (c.in_err-write_opening.ensures.front (history_of fed) (subst (λ r. StandsFor r (history_of fed)) (sym c.replayer.ensures) was.replays)))

pub returns-clause-bytes : goal.returns-clause-bytes
returns-clause-bytes g c =
    let s = c.args.self.now in
    still_ok c.write.result _ _ c.write.ensures.bytes (λ wrote fed was.
    appends_then _ _ _ (opening s.minor (history_of fed) s.first s.kept.items) c.args.raw.now.bytes.now
    (subst (λ k. Appends (g.K.Sink.taken c.args.sink.now) (g.K.Sink.taken c.write_opening.new.sink) (opening s.minor (history_of fed) s.first k)) c.deref.ensures.value (c.in_ok-write_opening.ensures.ok (history_of fed) (subst (λ r. StandsFor r (history_of fed)) (sym c.replayer.ensures) was.replays))) wrote)

pub returns-clause-front : goal.returns-clause-front
returns-clause-front g c fed was =
    let s = c.args.self.now in
    part_then _ _ _ (opening s.minor (history_of fed) s.first s.kept.items) c.args.raw.now.bytes.now
    (subst (λ k. Appends (g.K.Sink.taken c.args.sink.now) (g.K.Sink.taken c.write_opening.new.sink) (opening s.minor (history_of fed) s.first k)) c.deref.ensures.value (c.in_ok-write_opening.ensures.ok (history_of fed) (subst (λ r. StandsFor r (history_of fed)) (sym c.replayer.ensures) was.replays))) c.write.ensures.front
