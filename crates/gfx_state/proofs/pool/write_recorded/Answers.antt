use Rattle.std.proofs.Common.{◌∙◌, ap}
use Rattle.std.specs.Prelude.{flat_map}
use Rattle.gfx_commands.specs.Recordings.{buffers}
use Rattle.gfx_state.specs.Pools.{recorded_anew}
use Rattle.gfx_state.proofs.Writing.{wrote_as}
use Rattle.gfx_state.proofs.pool.write_recorded.Goals as goal

pub returns : goal.returns
returns g c = wrote_as (ap (flat_map (recorded_anew (buffers c.args.recordings.now))) (c.deref.ensures.value ∙ c.in_ok-cbs.ensures.ids)) c.write_recordings.ensures
