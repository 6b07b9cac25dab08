use Rattle.std.proofs.Common.{refl, ◌∙◌}
use Rattle.gfx_types.specs.declared.names.Kind.TheVariants as kind
use Rattle.gfx_model.specs.Events.Event.{InitImage}
use Rattle.gfx_model.specs.Table.{place_of, row_of, checks_of}
use Rattle.gfx_model.specs.Effects.{effect_of}
use Rattle.gfx_laws.proofs.NewObjects.{all_pass}
use Rattle.gfx_tracker.specs.State.{state_answers}
use Rattle.gfx_tracker.proofs.Next.{is_live_by, after_image}
use Rattle.gfx_tracker.proofs.metadata.init_image.Goals as goal

pub set_layout-requires : goal.set_layout-requires
unfolding place_of row_of
set_layout-requires c =
    let v = state_answers c.args.state.now in
    is_live_by v kind.Image c.args.image (all_pass v (checks_of (InitImage c.args.image c.args.layout c.args._bytes.now)) c.requires.passes).1.0

pub returns : goal.returns
unfolding effect_of
returns c =
    c.set_layout.ensures
    ∙ after_image (state_answers c.args.state.now) (InitImage c.args.image c.args.layout c.args._bytes.now) c.args.image c.args.layout c.args._bytes.now refl
