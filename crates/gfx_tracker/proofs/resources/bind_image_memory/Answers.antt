use Rattle.std.proofs.Common.{◌≡◌, refl, subst, OnOk}
use Rattle.gfx_model.specs.Events.Event.{BindImageMemory}
use Rattle.gfx_model.specs.Spelling.{id_of}
use Rattle.gfx_model.specs.Steps.Step.{binds}
use Rattle.gfx_model.specs.Table.{place_of, row_of, checks_of}
use Rattle.gfx_model.specs.Effects.{effect_of}
use Rattle.gfx_laws.proofs.NewObjects.{all_pass}
use Rattle.gfx_tracker.specs.State.{state_answers}
use Rattle.gfx_tracker.proofs.Next.{after_one}
use Rattle.gfx_tracker.proofs.Binding.{image_binds}
use Rattle.gfx_tracker.proofs.resources.bind_image_memory.Goals as goal

pub bind-requires : goal.bind-requires
unfolding place_of row_of id_of
bind-requires c =
    let v = state_answers c.args.state.now in
    let all = all_pass v (checks_of (BindImageMemory c.args._device c.args.image c.args.memory c.args.offset)) c.requires.passes in
    image_binds v c.args.image c.args.memory c.args.offset all.1.0 all.1.1.0 all.1.1.1.1.1.1.1.0

pub returns-clause-ok : goal.returns-clause-ok
unfolding effect_of
returns-clause-ok c =
    subst (λ v. OnOk c.bind.result (state_answers c.bind.new.self ≡ v))
    (after_one (state_answers c.args.state.now) (BindImageMemory c.args._device c.args.image c.args.memory c.args.offset) (binds c.args.image c.args.memory c.args.offset) refl) c.bind.ensures.ok
