use Rattle.std.proofs.Common.{map, drop}
use Rattle.gfx_objects.specs.Objects.{answers}
use Rattle.gfx_state.specs.Images.{picture}
use Rattle.gfx_state.proofs.Writing.{Leads}
use Rattle.gfx_state.proofs.swapchain.write_pictures.Given as goal

-- the images from here on are left to write
abbrev pub invariant-images : goal.invariant-images
invariant-images g l =
    let sink = g.K.Sink in
    let one = picture (answers l.objects) (g.B.StateBytes.bytes l.bytes) in
    Leads (sink.taken l.fn.sink) (sink.taken l.sink) (sink.faults l.fn.sink) (sink.faults l.sink) (map one l.images) (map one (drop l.image-index l.images))
