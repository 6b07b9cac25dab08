use Rattle.std.proofs.Common.{arith}
use Rattle.std.proofs.lemmas.Result.{err_from_is_err_and}
use Rattle.gfx_play.proofs.Showing.{open_fails}
use Rattle.gfx_play.proofs.play.show_frames.Goals as goal

pub returns-in_err-player-clause-told : goal.returns-in_err-player-clause-told
returns-in_err-player-clause-told g c =
    let p = err_from_is_err_and c.from_residual.result c.from_residual.ensures.1 in
    rw (p.1, p.2) (open_fails c.args.asked c.args.pixels _ _ _ (g.K.Sink.taken c.args.sink.now) c.in_err-player.ensures.stopped)

pub show_opened-shown-requires : goal.show_opened-shown-requires
show_opened-shown-requires g c = (_, c.in_ok-player.ensures.plays)

pub returns-clause-told : goal.returns-clause-told
returns-clause-told g c = c.show_opened-shown.ensures.told _ c.in_ok-player.ensures.plays

pub returns-clause-read_fault : goal.returns-clause-read_fault
returns-clause-read_fault g c is =
    let later = c.open.ensures.later in
    let rose = c.show_opened-shown.ensures.read_fault is in
    omega (arith, later, rose)
