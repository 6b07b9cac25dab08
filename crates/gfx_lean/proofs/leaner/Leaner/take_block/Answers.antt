use Rattle.gfx_decode.specs.Decoding.{item_of}
use Rattle.gfx_player.specs.Fed.{history_of}
use Rattle.gfx_trim.proofs.Steps.{writing_continues}
use Rattle.gfx_lean.proofs.Taking.{if_err, if_ok, writing_phase}
use Rattle.gfx_lean.proofs.leaner.Leaner.take_block.Goals as goal

pub returns-in-Writing-clause-ok : goal.returns-in-Writing-clause-ok
returns-in-Writing-clause-ok c =
    if_ok c.gather.result _ _ c.gather.ensures.ok (λ last take fed a.
    let s = c.args.self.now in
    let was = writing_phase s c.args.player.now fed c.in-Writing.is a in
    take fed (record { follows = a.follows; has = was.1 }) (writing_continues s.first s.last fed (item_of c.args.raw.now) was.0))

pub returns-in-Writing-clause-err : goal.returns-in-Writing-clause-err
returns-in-Writing-clause-err c = if_err c.gather.result _ _ c.gather.ensures.err (λ why refuses fed a. refuses (history_of fed) a.follows)
