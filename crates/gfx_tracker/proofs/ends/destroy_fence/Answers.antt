use Rattle.std.proofs.Common.{refl, ◌∙◌}
use Rattle.gfx_types.specs.declared.names.Kind.TheVariants as kind
use Rattle.gfx_model.specs.Events.Event.{DestroyFence}
use Rattle.gfx_model.specs.Spelling.{id_of}
use Rattle.gfx_model.specs.Steps.Step.{ends}
use Rattle.gfx_model.specs.Table.{place_of, row_of, checks_of}
use Rattle.gfx_model.specs.Effects.{effect_of}
use Rattle.gfx_laws.proofs.NewObjects.{all_pass}
use Rattle.gfx_tracker.specs.State.{state_answers}
use Rattle.gfx_tracker.proofs.Next.{live_some, after_one}
use Rattle.gfx_tracker.proofs.ends.destroy_fence.Goals as goal

pub end-requires : goal.end-requires
unfolding place_of row_of id_of
end-requires c =
    let v = state_answers c.args.state.now in
    record { live = live_some v kind.Fence c.args.fence (all_pass v (checks_of (DestroyFence c.args._device c.args.fence)) c.requires.passes).1.1.0; lawful = c.requires.lawful }

pub returns : goal.returns
unfolding effect_of
returns c = c.end.ensures ∙ after_one (state_answers c.args.state.now) (DestroyFence c.args._device c.args.fence) (ends c.args.fence) refl
