-- The numbers of calls.
use Rattle.std.proofs.Common.{◌≤◌, arith}
use Rattle.gfx_types.specs.declared.call.Call.{Call}
use Rattle.gfx_model.specs.Events.{event_of_call}
use Rattle.gfx_model.specs.Spelling.{id_of}

-- calls are numbered from 1 to 48
pub call_number : (call : Call) → (1 ≤ id_of (event_of_call call)) × (id_of (event_of_call call) ≤ 48)
unfolding id_of
call_number (Call.CreateInstance instance api) = (omega arith, omega arith)
call_number _ = (omega arith, omega arith)
