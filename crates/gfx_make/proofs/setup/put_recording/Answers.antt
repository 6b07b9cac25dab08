use Rattle.gfx_make.proofs.Writable.{recording_writable}
use Rattle.gfx_make.proofs.setup.put_recording.Goals as goal

pub put_all-requires : goal.put_all-requires
put_all-requires c =
    rw c.in_ok-opens.ensures (rw c.in_ok-copies.ensures (rw c.in_ok-closes.ensures (recording_writable c.args.index c.requires)))
