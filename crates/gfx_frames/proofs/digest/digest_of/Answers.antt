use Rattle.std.proofs.Common.{◌≤◌, length, take, subst, arith}
use Rattle.sha2.specs.Hashers.{Holds256}
use Rattle.gfx_frames.specs.Texts.{bytes_of}
use Rattle.gfx_frames.proofs.Pieces.{one_more}
use Rattle.gfx_frames.proofs.digest.digest_of.Goals as goal

pub pieces-preserved : goal.pieces-preserved
pieces-preserved g c =
    let r = c.read.ensures in
    let u = c.update.ensures in
    let all = bytes_of (g.B.StateBytes.bytes c.args.bytes.now) c.args.place in
    let fits : c.min-count.result ≤ length c.pieces.buffer = omega arith in
    record {
      within = omega arith;
      holds = subst (Holds256 c.update.new.self) (one_more all c.pieces.at c.min-count.result c.pieces.buffer c.read.new.into fits r) (u (take c.pieces.at all) c.pieces.invariant.holds);
    }
