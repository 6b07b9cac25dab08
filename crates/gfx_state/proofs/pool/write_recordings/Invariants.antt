use Rattle.std.proofs.Common.{drop}
use Rattle.std.specs.Prelude.{flat_map}
use Rattle.gfx_commands.specs.Recordings.{buffers}
use Rattle.gfx_state.specs.Pools.{recorded_anew}
use Rattle.gfx_state.proofs.Writing.{Leads}
use Rattle.gfx_state.proofs.pool.write_recordings.Given as goal

-- the buffers from here on are left to write
abbrev pub invariant-buffers : goal.invariant-buffers
invariant-buffers g l =
    let sink = g.K.Sink in
    let one = recorded_anew (buffers l.recordings) in
    Leads (sink.taken l.fn.sink) (sink.taken l.sink) (sink.faults l.fn.sink) (sink.faults l.sink) (flat_map one l.cbs) (flat_map one (drop l.cb-index l.cbs))
