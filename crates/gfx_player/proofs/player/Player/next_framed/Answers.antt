use Rattle.gfx_decode.specs.declared.fault.DecodeFault.TheVariants.{ReadFault}
use Rattle.gfx_player.proofs.Walking.{not_failed, not_fresh}
use Rattle.gfx_player.proofs.player.Player.next_framed.Goals as goal

pub next_framed-requires : goal.next_framed-requires
next_framed-requires g c = not_fresh c.args.self.now.decoder c.requires.going

pub returns-clause-cause : goal.returns-clause-cause
returns-clause-cause g c is = c.next_framed.ensures.cause is (not_failed c.args.self.now.decoder ReadFault c.requires.going)
