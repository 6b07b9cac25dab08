use Rattle.gfx_state.proofs.Writing.{wrote_both, wrote_out}
use Rattle.gfx_state.proofs.memory.write_memory.Goals as goal

pub returns-in_err-write_effect : goal.returns-in_err-write_effect
returns-in_err-write_effect g c = wrote_out _ c.from_residual.result c.in_err-write_effect.ensures c.from_residual.ensures.1

pub returns-in_err-write_fills : goal.returns-in_err-write_fills
returns-in_err-write_fills g c = wrote_out _ c.from_residual-in_err-write_fills.result (wrote_both _ c.in_ok-write_effect.ensures c.in_err-write_fills.ensures) c.from_residual-in_err-write_fills.ensures.1

pub returns : goal.returns
returns g c = wrote_both _ c.in_ok-write_effect.ensures (wrote_both _ c.in_ok-write_fills.ensures c.write_map.ensures)
