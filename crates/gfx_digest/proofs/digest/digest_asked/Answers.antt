use Rattle.std.proofs.Common.{[], refl}
use Rattle.std.proofs.lemmas.Result.{err_from_is_err_and}
use Rattle.gfx_digest.proofs.Hashing.{hashing_stops}
use Rattle.gfx_digest.proofs.digest.digest_asked.Goals as goal

pub returns-in_err-player-clause-told : goal.returns-in_err-player-clause-told
returns-in_err-player-clause-told g c =
    let p = err_from_is_err_and c.from_residual.result c.from_residual.ensures.1 in
    rw (p.1, p.2) (hashing_stops c.args.asked [] _ _ _ refl c.in_err-player.ensures.stopped)

pub digest_opened-digested-requires : goal.digest_opened-digested-requires
digest_opened-digested-requires g c = record { space = c.requires.space; plays = (_, c.in_ok-player.ensures.plays) }

pub returns-clause-told : goal.returns-clause-told
returns-clause-told g c = c.digest_opened-digested.ensures.told _ c.in_ok-player.ensures.plays
