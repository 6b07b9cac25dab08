use Rattle.std.proofs.Common.{sym}
use Rattle.std.proofs.lemmas.List.{take_more}
use Rattle.gfx_types.specs.declared.names.Kind.TheVariants as kind
use Rattle.gfx_model.specs.Views.{is_live}
use Rattle.gfx_objects.specs.Objects.{answers}
use Rattle.gfx_replay.specs.Places.{bytes_in}
use Rattle.gfx_replay.proofs.Dropping.{one_dropped, one_stays}
use Rattle.gfx_replay.proofs.updates.drop_ended_images.Goals as goal
use Rattle.gfx_replay.proofs.updates.drop_ended_images.Goals.{then-not-is_live, else-not-is_live}

pub images-preserved : goal.images-preserved
images-preserved c =
    let old = bytes_in c.args.places.now in
    let now = bytes_in c.images.places in
    let live = is_live (answers c.args.objects.now) kind.Image in
    rw (take_more c.args.images.now c.images.image-index 0 c.images-test.true) (elim c.if-not-is_live.branch [
      | then-not-is_live w ↦ rw w.places-is (one_dropped old now live _ _ c.images.invariant (bytes_in w.remove.new.self) (sym w.if-not-is_live.ensures) w.remove.ensures)
      | else-not-is_live w ↦ rw w.places-is (one_stays old now live _ _ c.images.invariant (sym w.if-not-is_live.ensures))
    ])
