use Rattle.std.proofs.Common.{◌+◌, drop}
use Rattle.std.specs.Prelude.{flat_map}
use Rattle.gfx_commands.specs.Recordings.{buffers}
use Rattle.gfx_state.specs.Pools.{recorded_anew}
use Rattle.gfx_state.proofs.Writing.{leads_on, leads_out, leads_end, flat_next, flat_over}
use Rattle.gfx_state.proofs.pool.write_recordings.Goals as goal

pub returns-in_err-write_recording : goal.returns-in_err-write_recording
returns-in_err-write_recording g c =
    let one = recorded_anew (buffers c.args.recordings.now) in
    leads_out (flat_map one (drop (c.buffers.cb-index + 1) c.args.cbs.now)) c.from_residual.result c.buffers.invariant
    (flat_next one c.args.cbs.now c.buffers.cb-index 0 c.buffers-test.true) c.in_err-write_recording.ensures c.from_residual.ensures.1

pub buffers-preserved : goal.buffers-preserved
buffers-preserved g c =
    let one = recorded_anew (buffers c.args.recordings.now) in
    leads_on (flat_map one (drop (c.buffers.cb-index + 1) c.args.cbs.now)) c.buffers.invariant
    (flat_next one c.args.cbs.now c.buffers.cb-index 0 c.buffers-test.true) c.in_ok-write_recording.ensures

pub returns : goal.returns
returns g c =
    let one = recorded_anew (buffers c.args.recordings.now) in
    leads_end c.buffers.invariant (flat_over one c.args.cbs.now c.buffers.cb-index c.buffers-test.false)
