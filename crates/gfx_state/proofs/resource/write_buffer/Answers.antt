use Rattle.gfx_state.proofs.Writing.{wrote_both, wrote_out}
use Rattle.gfx_state.proofs.resource.write_buffer.Goals as goal

pub returns-in_err-write_effect : goal.returns-in_err-write_effect
returns-in_err-write_effect g c = wrote_out _ c.from_residual.result c.in_err-write_effect.ensures c.from_residual.ensures.1

pub returns : goal.returns
returns g c = wrote_both _ c.in_ok-write_effect.ensures c.write_buffer_binding.ensures
