use Rattle.gfx_make.proofs.Putting.{put_none, put_frame}
use Rattle.gfx_make.proofs.frame.put_frames.Goals as goal

pub frames-init : goal.frames-init
frames-init c = put_none c.args.out.now.items

pub frames-preserved : goal.frames-preserved
frames-preserved c =
    put_frame c.frames.done c.args.out.now.items c.frames.out.items c.put_frame.new.out.items c.frames.invariant c.in_ok-put_frame.ensures
