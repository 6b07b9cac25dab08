use Rattle.std.proofs.Common.{◌≤◌, ◌++◌, length, take, subst, arith}
use Rattle.sha2.specs.Hashers.{Holds256}
use Rattle.gfx_frames.specs.Texts.{bytes_of}
use Rattle.gfx_digest.proofs.Pieces.{piece_more}
use Rattle.gfx_digest.proofs.images.hash_place.Goals as goal

pub pieces-preserved : goal.pieces-preserved
pieces-preserved g c =
    let all = bytes_of (g.B.StateBytes.bytes c.args.bytes.now) c.args.place in
    let fits : c.min-count.result ≤ length c.pieces.buffer = omega arith in
    record {
      within = omega arith;
      holds = λ before held.
          subst (Holds256 c.update.new.self) (piece_more before all c.pieces.at c.min-count.result c.pieces.buffer c.read.new.into fits c.read.ensures)
          (c.update.ensures (before ++ take c.pieces.at all) (c.pieces.invariant.holds before held));
    }
