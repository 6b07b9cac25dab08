use Rattle.std.proofs.Common.{◌+◌, drop, arith}
use Rattle.gfx_commands.specs.Recorded.{event_in}
use Rattle.gfx_commands.specs.Recordings.{buffers}
use Rattle.gfx_state.proofs.Writing.{leads_on, leads_out, leads_end}
use Rattle.gfx_state.proofs.Recorded.{drop_there, below_there, drop_past, kept_few}
use Rattle.gfx_state.proofs.pool.write_commands.Goals as goal

pub returns-in_err-write_command : goal.returns-in_err-write_command
returns-in_err-write_command g c =
    let commands = (buffers c.args.recordings.now c.args.cb).commands in
    leads_out (drop (c.commands.k + 1) commands) c.from_residual.result c.commands.invariant
    (drop_there commands c.commands.k (event_in c.in-Some.command) c.in-Some.ensures.item) c.in_err-write_command.ensures c.from_residual.ensures.1

pub overflow_add-k : goal.overflow_add-k
overflow_add-k g c =
    let commands = (buffers c.args.recordings.now c.args.cb).commands in
    let below = below_there commands c.commands.k (event_in c.in-Some.command) c.in-Some.ensures.item in
    let all = kept_few c.args.recordings.now c.args.cb c.requires.kept in
    let total = c.totals-totals.ensures.same_commands in
    let few = c.totals-totals.ensures.few in
    omega (arith, below, all, total, few)

pub commands-smaller : goal.commands-smaller
commands-smaller g c =
    let commands = (buffers c.args.recordings.now c.args.cb).commands in
    let below = below_there commands c.commands.k (event_in c.in-Some.command) c.in-Some.ensures.item in
    omega (arith, below)

pub commands-preserved : goal.commands-preserved
commands-preserved g c =
    let commands = (buffers c.args.recordings.now c.args.cb).commands in
    leads_on (drop (c.commands.k + 1) commands) c.commands.invariant
    (drop_there commands c.commands.k (event_in c.in-Some.command) c.in-Some.ensures.item) c.in_ok-write_command.ensures

pub returns : goal.returns
returns g c = leads_end c.commands.invariant (drop_past (buffers c.args.recordings.now c.args.cb).commands c.commands.k c.in_default.ensures.item)
