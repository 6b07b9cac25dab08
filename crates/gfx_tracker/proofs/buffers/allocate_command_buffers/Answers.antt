use Rattle.std.proofs.Common.{ap, sym, subst, ◌∙◌, get_or, arith}
use Rattle.std.specs.Prelude.{fold}
use Rattle.std.proofs.lemmas.List.{take_all}
use Rattle.gfx_model.specs.Steps.Detail.{a_command_buffer}
use Rattle.gfx_model.specs.After.{after}
use Rattle.gfx_tracker.specs.State.{state_answers}
use Rattle.gfx_tracker.specs.Taking.{MayCreate}
use Rattle.gfx_tracker.proofs.Allocated.{allocations, allocates_may, allocates_few, after_allocated}
use Rattle.gfx_tracker.proofs.buffers.allocate_command_buffers.Goals as goal

pub overflow_cast-buffers : goal.overflow_cast-buffers
overflow_cast-buffers c =
    let few = allocates_few (state_answers c.args.state.now) c.args._device c.args.pool c.args.buffers.now c.requires in omega (arith, few)

pub create_owned-requires-clause-may : goal.create_owned-requires-clause-may
create_owned-requires-clause-may c =
    let v = state_answers c.args.state.now in
    let buffers = c.args.buffers.now in
    let k = c.buffers.buffer-index in
    subst (λ w. MayCreate w (get_or buffers k 0) a_command_buffer) (sym c.buffers.invariant.steps)
    (allocates_may v c.args._device c.args.pool buffers k c.requires c.buffers-test.true)

pub returns-clause-ok : goal.returns-clause-ok
returns-clause-ok c =
    let v = state_answers c.args.state.now in
    let buffers = c.args.buffers.now in
    c.buffers.invariant.steps ∙ ap (λ xs. fold after v (allocations c.args.pool xs)) (take_all c.buffers.buffer-index buffers c.buffers-test.false)
    ∙ after_allocated v c.args._device c.args.pool buffers c.requires
