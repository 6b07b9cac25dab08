use Rattle.std.proofs.Common.{arith}
use Rattle.gfx_model.specs.Events.{event_of_call}
use Rattle.gfx_grammar.proofs.EventLaws.{read_is_spelled}
use Rattle.gfx_state.proofs.pool.write_command.Goals as goal

pub write_effect-requires-clause-spelled : goal.write_effect-requires-clause-spelled
write_effect-requires-clause-spelled g c =
    (read_is_spelled 1 4 c.args.call_id c.args.params.now (event_of_call c.in-Ok.call) (λ i. let byte = c.type_inv.params i in omega (arith, byte)) c.in-Ok.ensures).0.fits
