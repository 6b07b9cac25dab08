-- A handle may cross threads: it owns nothing, or what a box of the state owns, which any thread may free.
use mathlib.Core.List.{[]}
use mir.Raw.{raw}
use base.Shift.{Keyless}
use denote.Memory.{lone}
use denote.RawPtr.{Ptr}
use denote.Struct.Struct.{exits_of}
use denote.Struct.Owning.{shape, fields, to}
use denote.Param.Send.{IsSend, AllSend, owning_send, struct_send, sendable}
use Rattle.std.specs.Prelude.{Option, Some, None}
use Rattle.std.specs.Global.{Global}
use Rattle.std.proofs.Crossing as heap
use Rattle.std_alloc.proofs.SendSync.{quiet, lies}
use Rattle.std_heap.proofs.Global.TheSendSync as allocator
use Rattle.gfx_log_c.specs.Owned.{handle_owns}
use Rattle.gfx_log_c.specs.contracts.state.State as State
use Rattle.gfx_log_c.proofs.state.State.TheSendSync.{the_send as state}
use Rattle.gfx_log_c.specs.contracts.handle.Handle.{the_row, the_type}

owned : (alloc : Global) (at : Ptr) (held : Option State.the_row.Denot) → Keyless (handle_owns alloc at held)
owned alloc at (Some s) = (lies State.the_row state at s, heap.frees.frees alloc (raw (lone State.the_row.mir)) at)
owned alloc at None = tt

pub send : IsSend the_row
send =
    let all : AllSend (fields the_type) = (search sendable, (allocator.the_field_send, tt)) in
    owning_send the_type all (λ d. owned d.alloc d.at d.held)
    (λ k. quiet (to the_type) (exits_of k (fields the_type)) ((struct_send (shape the_type) all).leaving k))
