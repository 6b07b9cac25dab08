use Rattle.std.proofs.Common.{◌≡◌, [], false, ℕ, List, Option, ap, subst, sym, ◌∙◌}
use Rattle.std.proofs.lemmas.Result.{err_from_is_err_and}
use Rattle.gfx_player.specs.declared.asked.Asked.TheVariants as asked
use Rattle.gfx_player.specs.declared.player.Player.{Player}
use Rattle.gfx_player.specs.Walks.{IsAtBlock, Plays}
use Rattle.gfx_play.proofs.Showing.{open_fails}
use Rattle.gfx_fan.specs.declared.album.Album.{Album}
use Rattle.gfx_fan.specs.Gathered.{Gathering}
use Rattle.gfx_fan.specs.Kept.{IsBare, plain}
use Rattle.gfx_fan.proofs.Gathering.{gathered_none}
use Rattle.gfx_fan.proofs.walk.digests.Goals as goal

pub returns-in_err-player-clause-told : goal.returns-in_err-player-clause-told
returns-in_err-player-clause-told g c =
    let p = err_from_is_err_and c.from_residual.result c.from_residual.ensures.1 in
    rw (p.1, p.2) (open_fails asked.All false _ _ _ (g.K.Sink.taken c.args.sink.now) c.in_err-player.ensures.stopped)

-- a walk with a player that was opened has shown no frame
started : (p q : Player) (k : Album) (file left taken : Option (List ℕ)) → q ≡ p → Plays p [] file left → k.screen.asked ≡ asked.All → k.screen.listing ≡ plain p.minor → k.screen.count ≡ 0 → IsBare k →
    Gathering q k [] file left taken taken
started p q k file left taken same plays all listing count bare =
    gathered_none q k file left taken (subst (λ p. Plays p [] file left) (sym same) plays) all (listing ∙ ap (λ p. plain p.minor) (sym same)) count bare

pub run-ran-requires : goal.run-ran-requires
run-ran-requires g c =
    let of = c.new-walk.ensures in (
      c.type_bounds.sync-R,
      (
        subst IsAtBlock (sym of.player) c.in_ok-player.ensures.place,
        (_, started _ _ _ _ _ _ of.player c.in_ok-player.ensures.plays of.asked of.listing of.count of.bare),
      ),
    )

pub returns-clause-told : goal.returns-clause-told
returns-clause-told g c =
    let of = c.new-walk.ensures in c.run-ran.ensures.told _ (started _ _ _ _ _ _ of.player c.in_ok-player.ensures.plays of.asked of.listing of.count of.bare)
