use Rattle.std.proofs.Common.{◌++◌}
use Rattle.gfx_make.specs.Made.{objects, recording, setup}
use Rattle.gfx_make.proofs.Putting.{put_both, then_put}
use Rattle.gfx_make.proofs.setup.put_setup.Goals as goal

pub returns : goal.returns
unfolding setup
returns c =
    let start = c.args.out.now.items in
    let two = put_both objects (recording 0) start c.put_objects.new.out.items c.put_recording.new.out.items c.in_ok-put_objects.ensures c.in_ok-put_recording.ensures in
    then_put (objects ++ recording 0) (recording 1) start c.put_recording.new.out.items c.put_recording-2.new.out.items c.put_recording-2.result two c.put_recording-2.ensures
