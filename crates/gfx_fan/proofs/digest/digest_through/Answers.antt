use Rattle.std.proofs.Common.{◌≤◌, length, take, subst, arith}
use Rattle.sha2.specs.Hashers.{Holds256}
use Rattle.gfx_frames.proofs.Pieces.{one_more}
use Rattle.gfx_fan.proofs.digest.digest_through.Goals as goal

pub pieces-preserved : goal.pieces-preserved
pieces-preserved c =
    let r = c.read_into.ensures in
    let u = c.update.ensures in
    let all = c.args.bytes.now in
    let fits : c.min-count.result ≤ length c.pieces.buffer = omega arith in
    record {
      within = omega arith;
      holds = subst (Holds256 c.update.new.self) (one_more all c.pieces.at c.min-count.result c.pieces.buffer c.read_into.new.into fits r) (u (take c.pieces.at all) c.pieces.invariant.holds);
    }
