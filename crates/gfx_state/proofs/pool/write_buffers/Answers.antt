use Rattle.std.proofs.Common.{◌∙◌, ap}
use Rattle.std.specs.Prelude.{flat_map}
use Rattle.gfx_model.specs.Section.{allocate_event}
use Rattle.gfx_commands.specs.Recordings.{buffers}
use Rattle.gfx_state.specs.Pools.{recorded_anew}
use Rattle.gfx_state.proofs.Writing.{wrote_as, wrote_both, wrote_out}
use Rattle.gfx_state.proofs.pool.write_buffers.Goals as goal

pub returns-in_err-write_allocation : goal.returns-in_err-write_allocation
returns-in_err-write_allocation g c =
    let is = c.deref.ensures.value ∙ c.in_ok-cbs.ensures.ids in
    wrote_out _ c.from_residual-in_err-write_allocation.result (wrote_as (ap (allocate_event c.args.owned.parent c.args.owned.id) is) c.in_err-write_allocation.ensures) c.from_residual-in_err-write_allocation.ensures.1

pub returns : goal.returns
returns g c =
    let is = c.deref.ensures.value ∙ c.in_ok-cbs.ensures.ids in
    wrote_both _ (wrote_as (ap (allocate_event c.args.owned.parent c.args.owned.id) is) c.in_ok-write_allocation.ensures)
    (wrote_as (ap (flat_map (recorded_anew (buffers c.args.recordings.now))) (c.deref-2.ensures.value ∙ c.in_ok-cbs.ensures.ids)) c.write_recordings.ensures)
