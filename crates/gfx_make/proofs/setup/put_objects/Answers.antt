use Rattle.std.proofs.Common.{◌++◌}
use Rattle.gfx_make.specs.Made.{device, images, memory, buffers, signals}
use Rattle.gfx_make.proofs.Putting.{put_both, then_put}
use Rattle.gfx_make.proofs.setup.put_objects.Goals as goal

pub returns : goal.returns
returns c =
    let start = c.args.out.now.items in
    let two = put_both device images start c.put_device.new.out.items c.put_images.new.out.items c.in_ok-put_device.ensures c.in_ok-put_images.ensures in
    let three = put_both (device ++ images) memory start c.put_images.new.out.items c.put_memory.new.out.items two c.in_ok-put_memory.ensures in
    let four = put_both (device ++ images ++ memory) buffers start c.put_memory.new.out.items c.put_buffers.new.out.items three c.in_ok-put_buffers.ensures in
    then_put (device ++ images ++ memory ++ buffers) signals start c.put_buffers.new.out.items c.put_signals.new.out.items c.put_signals.result four c.put_signals.ensures
