use Rattle.std.proofs.Common.{refl, ◌∙◌}
use Rattle.gfx_types.specs.declared.op.Place.TheVariants as place
use Rattle.gfx_model.specs.Events.Event.{FillMemory}
use Rattle.gfx_model.specs.Effects.{effect_of}
use Rattle.gfx_tracker.specs.State.{state_answers}
use Rattle.gfx_tracker.proofs.Next.{after_put}
use Rattle.gfx_tracker.proofs.metadata.fill_memory.Goals as goal

pub returns : goal.returns
unfolding effect_of
returns c =
    c.take.ensures
    ∙ after_put (state_answers c.args.state.now) (FillMemory c.args._memory c.args._offset c.args._bytes.now) (place.Memory c.args._memory) c.args._offset c.args._bytes.now refl
