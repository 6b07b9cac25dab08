use Rattle.std.proofs.lemmas.Result.{err_from_is_err_and}
use Rattle.gfx_trim.proofs.Files.{open_fails}
use Rattle.gfx_trim.proofs.trimming.cut_range.Goals as goal

pub returns-in_err-player-clause-told : goal.returns-in_err-player-clause-told
returns-in_err-player-clause-told g c =
    let p = err_from_is_err_and c.from_residual.result c.from_residual.ensures.1 in
    let taken = g.K.Sink.taken c.args.sink.now in
    rw (p.1, p.2)
    (open_fails c.args.first c.args.last c.in_err-player.field-0.0 _ _ taken c.requires.ordered c.in_err-player.ensures.err)

pub cut_opened-cut-requires : goal.cut_opened-cut-requires
cut_opened-cut-requires g c = record {
  ordered = c.requires.ordered;
  replayed = c.in_ok-player.ensures.replayed;
  read = (_, c.in_ok-player.ensures.read);
}

pub returns-clause-told : goal.returns-clause-told
returns-clause-told g c = c.cut_opened-cut.ensures.told _ c.in_ok-player.ensures.read
