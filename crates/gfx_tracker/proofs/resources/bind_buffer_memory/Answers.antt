use Rattle.std.proofs.Common.{◌≡◌, refl, subst, OnOk}
use Rattle.gfx_model.specs.Events.Event.{BindBufferMemory}
use Rattle.gfx_model.specs.Spelling.{id_of}
use Rattle.gfx_model.specs.Steps.Step.{binds}
use Rattle.gfx_model.specs.Table.{place_of, row_of, checks_of}
use Rattle.gfx_model.specs.Effects.{effect_of}
use Rattle.gfx_laws.proofs.NewObjects.{all_pass}
use Rattle.gfx_tracker.specs.State.{state_answers}
use Rattle.gfx_tracker.proofs.Next.{after_one}
use Rattle.gfx_tracker.proofs.Binding.{buffer_binds}
use Rattle.gfx_tracker.proofs.resources.bind_buffer_memory.Goals as goal

pub bind-requires : goal.bind-requires
unfolding place_of row_of id_of
bind-requires c =
    let v = state_answers c.args.state.now in
    let all = all_pass v (checks_of (BindBufferMemory c.args._device c.args.buffer c.args.memory c.args.offset)) c.requires.passes in
    buffer_binds v c.args.buffer c.args.memory c.args.offset all.1.0 all.1.1.0 all.1.1.1.1.1.1.1.0

pub returns-clause-ok : goal.returns-clause-ok
unfolding effect_of
returns-clause-ok c =
    subst (λ v. OnOk c.bind.result (state_answers c.bind.new.self ≡ v))
    (after_one (state_answers c.args.state.now) (BindBufferMemory c.args._device c.args.buffer c.args.memory c.args.offset) (binds c.args.buffer c.args.memory c.args.offset) refl) c.bind.ensures.ok
