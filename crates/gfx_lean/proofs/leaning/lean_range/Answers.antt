use Rattle.std.proofs.lemmas.Result.{err_from_is_err_and}
use Rattle.gfx_player.proofs.Walking.{still_going}
use Rattle.gfx_lean.proofs.Files.{open_fails}
use Rattle.gfx_lean.proofs.leaning.lean_range.Goals as goal

pub returns-in_err-player-clause-told : goal.returns-in_err-player-clause-told
returns-in_err-player-clause-told g c =
    let p = err_from_is_err_and c.from_residual.result c.from_residual.ensures.1 in
    rw (p.1, p.2) (open_fails c.args.first c.args.last c.in_err-player.field-0.0 _ _ (g.K.Sink.taken c.args.sink.now) c.requires.ordered c.in_err-player.ensures.err)

pub lean_opened-leaned-requires : goal.lean_opened-leaned-requires
lean_opened-leaned-requires g c = record {
  ordered = c.requires.ordered;
  replayed = c.in_ok-player.ensures.replayed;
  read = (g.S.Source.left c.args.source.now, c.in_ok-player.ensures.read);
  going = still_going 0 c.in_ok-player.player.decoder c.in_ok-player.ensures.read.place;
}

pub returns-clause-told : goal.returns-clause-told
returns-clause-told g c = c.lean_opened-leaned.ensures.told (g.S.Source.left c.args.source.now) c.in_ok-player.ensures.read
