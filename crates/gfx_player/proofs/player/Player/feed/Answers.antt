use Rattle.std.proofs.lemmas.Result.{IfErr-weaker, IfOk-weaker}
use Rattle.gfx_player.proofs.player.Player.feed.Goals as goal

pub returns-clause-ok : goal.returns-clause-ok
returns-clause-ok c = IfOk-weaker c.feed_block.result _ _ (λ shown replays fed was. replays fed c.args.raw.now.bytes.now was) c.feed_block.ensures.ok

pub returns-clause-err : goal.returns-clause-err
returns-clause-err c = IfErr-weaker c.feed_block.result _ _ (λ why refuses fed was. refuses fed c.args.raw.now.bytes.now was) c.feed_block.ensures.err
