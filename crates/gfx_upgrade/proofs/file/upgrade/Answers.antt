use Rattle.gfx_decode.proofs.Told.{told_if}
use Rattle.gfx_player.proofs.ToldBytes.{told_bytes}
use Rattle.gfx_upgrade.specs.Laws.{TookSame}
use Rattle.gfx_upgrade.specs.Upgrades.{Answers}
use Rattle.gfx_upgrade.proofs.Upgrading.{took_same}
use Rattle.gfx_upgrade.proofs.file.upgrade.Goals as goal
use Rattle.std.specs.Prelude.{OnOk}

pub returns-clause-same : goal.returns-clause-same
returns-clause-same g c =
    let before = g.K.Sink.taken c.args.sink.now in
    let after = g.K.Sink.taken c.rewrite.new.sink in
    let end = c.rewrite.result in
    told_bytes _ _ (λ bytes rest. OnOk end (TookSame before after bytes)) (g.met.S.Source.are_bytes c.args.source.now)
    (told_if _ _ (Answers before after end) _ c.rewrite.ensures.told (λ all rest told fit. took_same end before after all rest fit told))
