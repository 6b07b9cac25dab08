use Rattle.std.proofs.Common.{◌∙◌, ap, map}
use Rattle.gfx_model.specs.Section.{fetch_event}
use Rattle.gfx_objects.specs.Objects.{answers}
use Rattle.gfx_state.specs.Images.{picture}
use Rattle.gfx_state.proofs.Writing.{wrote_as, wrote_both, wrote_out}
use Rattle.gfx_state.proofs.swapchain.write_images.Goals as goal

pub returns-in_err-write_fetch : goal.returns-in_err-write_fetch
returns-in_err-write_fetch g c =
    let is = c.deref.ensures.value ∙ c.in_ok-ids.ensures.ids in
    wrote_out _ c.from_residual-in_err-write_fetch.result (wrote_as (ap (fetch_event c.args.owned.parent c.args.owned.id) is) c.in_err-write_fetch.ensures) c.from_residual-in_err-write_fetch.ensures.1

pub returns-in_err-write_marks : goal.returns-in_err-write_marks
returns-in_err-write_marks g c =
    let is = c.deref.ensures.value ∙ c.in_ok-ids.ensures.ids in
    wrote_both _ (wrote_as (ap (fetch_event c.args.owned.parent c.args.owned.id) is) c.in_ok-write_fetch.ensures)
    (wrote_out _ c.from_residual-in_err-write_marks.result c.in_err-write_marks.ensures c.from_residual-in_err-write_marks.ensures.1)

pub returns : goal.returns
returns g c =
    let is = c.deref.ensures.value ∙ c.in_ok-ids.ensures.ids in
    let one = picture (answers c.args.parts.now.objects.now) (g.B.StateBytes.bytes c.args.bytes.now) in
    wrote_both _ (wrote_as (ap (fetch_event c.args.owned.parent c.args.owned.id) is) c.in_ok-write_fetch.ensures)
    (wrote_both _ c.in_ok-write_marks.ensures (wrote_as (ap (map one) (c.deref-2.ensures.value ∙ c.in_ok-ids.ensures.ids)) c.write_pictures.ensures))
