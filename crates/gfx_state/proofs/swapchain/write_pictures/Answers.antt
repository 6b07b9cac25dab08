use Rattle.std.proofs.Common.{◌+◌, map, drop}
use Rattle.gfx_objects.specs.Objects.{answers}
use Rattle.gfx_state.specs.Images.{picture}
use Rattle.gfx_state.proofs.Writing.{leads_on, leads_out, leads_end, map_next, map_over}
use Rattle.gfx_state.proofs.swapchain.write_pictures.Goals as goal

pub returns-in_err-write_picture : goal.returns-in_err-write_picture
returns-in_err-write_picture g c =
    let one = picture (answers c.args.objects.now) (g.B.StateBytes.bytes c.args.bytes.now) in
    leads_out (map one (drop (c.images.image-index + 1) c.args.images.now)) c.from_residual.result c.images.invariant
    (map_next one c.args.images.now c.images.image-index 0 c.images-test.true) c.in_err-write_picture.ensures c.from_residual.ensures.1

pub images-preserved : goal.images-preserved
images-preserved g c =
    let one = picture (answers c.args.objects.now) (g.B.StateBytes.bytes c.args.bytes.now) in
    leads_on (map one (drop (c.images.image-index + 1) c.args.images.now)) c.images.invariant
    (map_next one c.args.images.now c.images.image-index 0 c.images-test.true) c.in_ok-write_picture.ensures

pub returns : goal.returns
returns g c =
    let one = picture (answers c.args.objects.now) (g.B.StateBytes.bytes c.args.bytes.now) in
    leads_end c.images.invariant (map_over one c.args.images.now c.images.image-index c.images-test.false)
