use Rattle.std.proofs.Common.{◌-◌, length, drop}
use Rattle.gfx_commands.specs.Recordings.{buffers}
use Rattle.gfx_state.proofs.Writing.{Leads}
use Rattle.gfx_state.proofs.pool.write_commands.Given as goal

-- the commands from here on are left to write
abbrev pub invariant-commands : goal.invariant-commands
invariant-commands g l =
    let sink = g.K.Sink in
    let commands = (buffers l.recordings l.cb).commands in
    Leads (sink.taken l.fn.sink) (sink.taken l.sink) (sink.faults l.fn.sink) (sink.faults l.sink) commands (drop l.k commands)

abbrev pub decreases-commands : goal.decreases-commands
decreases-commands g l = length (buffers l.recordings l.cb).commands - l.k
