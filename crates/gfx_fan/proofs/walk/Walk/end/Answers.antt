use Rattle.std.proofs.Common.{false, ap, subst, sym}
use Rattle.std.proofs.lemmas.Result.{err_from_is_err_and}
use Rattle.gfx_player.specs.declared.asked.Asked.TheVariants as asked
use Rattle.gfx_player.specs.Walks.{HasAll}
use Rattle.gfx_play.proofs.Showing.{Showing, shown_end}
use Rattle.gfx_fan.proofs.Gathering.{all_written, later_unwritten}
use Rattle.gfx_fan.proofs.walk.Walk.end.Goals as goal

pub returns-in_err-flush-clause-told : goal.returns-in_err-flush-clause-told
returns-in_err-flush-clause-told g c =
    let p = err_from_is_err_and c.from_residual.result c.from_residual.ensures.1 in
    let k = c.args.self.now in
    rw (p.1, p.2)
    (λ was shown file middle rest before s all.
    later_unwritten was k.album shown _ (HasAll k.player shown) file middle rest before _ _ s all c.in_err-flush.ensures.err c.in_err-flush.ensures.front)

pub returns-clause-told : goal.returns-clause-told
returns-clause-told g c was shown file middle rest before s all =
    let k = c.args.self.now in
    let written = all_written was k.album shown file middle before _ _ s c.in_ok-flush.ensures.ok in
    let b = g.K.Sink.taken c.flush.new.sink in
    shown_end asked.All false was k.player c.flush.new.self.screen shown c.end.result file middle rest before b _
    (subst (λ t. Showing asked.All false was t shown false file middle before b) (sym c.in_ok-flush.ensures.screen) written) all
    c.end.ensures.ok (λ first last is. let x = c.end.ensures.without first last is in (ap (λ t. g.K.Sink.taken t) x.0, x.1, x.2)) c.end.ensures.front c.end.ensures.err
