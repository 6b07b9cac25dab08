use Rattle.std.proofs.Common.{◌-◌, ◌==◌, if◌then◌else◌, refl, ap, ◌∙◌}
use Rattle.gfx_types.specs.declared.names.Kind.TheVariants as kind
use Rattle.gfx_model.specs.Events.Event.{MapMemory}
use Rattle.gfx_model.specs.Spelling.{id_of}
use Rattle.gfx_model.specs.Steps.Step.{maps}
use Rattle.gfx_model.specs.Views.{size_of}
use Rattle.gfx_model.specs.Table.{place_of, row_of, checks_of, whole}
use Rattle.gfx_model.specs.Effects.{effect_of}
use Rattle.gfx_model.specs.After.{after}
use Rattle.gfx_laws.proofs.NewObjects.{all_pass}
use Rattle.gfx_tracker.specs.State.{state_answers}
use Rattle.gfx_tracker.proofs.Next.{is_live_by, after_one}
use Rattle.gfx_tracker.proofs.resources.map_memory.Goals as goal

pub map-requires : goal.map-requires
unfolding place_of row_of id_of
map-requires c =
    let v = state_answers c.args.state.now in
    is_live_by v kind.Memory c.args.memory (all_pass v (checks_of (MapMemory c.args._device c.args.memory c.args.offset c.args.size)) c.requires.passes).1.0

pub returns : goal.returns
unfolding effect_of
returns c =
    let v = state_answers c.args.state.now in
    c.map.ensures
    ∙ ap (λ n. after v (maps c.args.memory c.args.offset n)) c.mapped_length-length.ensures
    ∙ after_one v (MapMemory c.args._device c.args.memory c.args.offset c.args.size)
    (maps c.args.memory c.args.offset (if c.args.size == whole then size_of v c.args.memory - c.args.offset else c.args.size)) refl
