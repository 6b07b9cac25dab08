use Rattle.std.proofs.Common.{◌≡◌, refl, subst, OnOk}
use Rattle.gfx_types.specs.declared.names.Kind.TheVariants as kind
use Rattle.gfx_model.specs.Events.Event.{BeginCommandBuffer}
use Rattle.gfx_model.specs.Spelling.{id_of}
use Rattle.gfx_model.specs.Steps.Step.{begins}
use Rattle.gfx_model.specs.Table.{place_of, row_of, checks_of}
use Rattle.gfx_model.specs.Effects.{effect_of}
use Rattle.gfx_laws.proofs.NewObjects.{all_pass}
use Rattle.gfx_tracker.specs.State.{state_answers}
use Rattle.gfx_tracker.proofs.Next.{is_live_by, after_one}
use Rattle.gfx_tracker.proofs.buffers.begin_command_buffer.Goals as goal

pub begin-requires : goal.begin-requires
unfolding place_of row_of id_of
begin-requires c =
    let v = state_answers c.args.state.now in
    is_live_by v kind.CommandBuffer c.args.cb (all_pass v (checks_of (BeginCommandBuffer c.args.cb c.args.flags)) c.requires.passes).0

pub returns-clause-ok : goal.returns-clause-ok
unfolding effect_of
returns-clause-ok c =
    subst (λ v. OnOk c.begin.result (state_answers c.begin.new.self ≡ v))
    (after_one (state_answers c.args.state.now) (BeginCommandBuffer c.args.cb c.args.flags) (begins c.args.cb c.args.flags) refl) c.begin.ensures.ok
