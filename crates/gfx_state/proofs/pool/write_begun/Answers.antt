use Rattle.std.proofs.Common.{◌∷◌, [], ap}
use Rattle.gfx_model.specs.Events.Event.{BeginCommandBuffer}
use Rattle.gfx_state.proofs.Writing.{wrote_as, wrote_both, wrote_out}
use Rattle.gfx_state.proofs.pool.write_begun.Goals as goal

pub write_commands-requires-clause-small : goal.write_commands-requires-clause-small
write_commands-requires-clause-small g c = c.requires.fit c.args.cb c.requires.kept

pub returns-in_err-write_begin : goal.returns-in_err-write_begin
returns-in_err-write_begin g c =
    wrote_out _ c.from_residual.result (wrote_as (ap (λ f. BeginCommandBuffer c.args.cb f ∷ []) c.flags.ensures) c.in_err-write_begin.ensures) c.from_residual.ensures.1

pub returns : goal.returns
returns g c = wrote_both _ (wrote_as (ap (λ f. BeginCommandBuffer c.args.cb f ∷ []) c.flags.ensures) c.in_ok-write_begin.ensures) c.write_commands.ensures
