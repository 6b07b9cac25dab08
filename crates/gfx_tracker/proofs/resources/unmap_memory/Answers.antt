use Rattle.std.proofs.Common.{refl, ◌∙◌}
use Rattle.gfx_types.specs.declared.names.Kind.TheVariants as kind
use Rattle.gfx_model.specs.Events.Event.{UnmapMemory}
use Rattle.gfx_model.specs.Spelling.{id_of}
use Rattle.gfx_model.specs.Steps.Step.{unmaps}
use Rattle.gfx_model.specs.Table.{place_of, row_of, checks_of}
use Rattle.gfx_model.specs.Effects.{effect_of}
use Rattle.gfx_laws.proofs.NewObjects.{all_pass}
use Rattle.gfx_tracker.specs.State.{state_answers}
use Rattle.gfx_tracker.proofs.Next.{is_live_by, after_one}
use Rattle.gfx_tracker.proofs.resources.unmap_memory.Goals as goal

pub unmap-requires : goal.unmap-requires
unfolding place_of row_of id_of
unmap-requires c =
    let v = state_answers c.args.state.now in
    is_live_by v kind.Memory c.args.memory (all_pass v (checks_of (UnmapMemory c.args._device c.args.memory)) c.requires.passes).1.1.0

pub returns : goal.returns
unfolding effect_of
returns c = c.unmap.ensures ∙ after_one (state_answers c.args.state.now) (UnmapMemory c.args._device c.args.memory) (unmaps c.args.memory) refl
