use Rattle.std.proofs.Common.{◌≡◌, length, subst, arith}
use Rattle.sha2.specs.Hashers.{Holds256}
use Rattle.gfx_digest.proofs.Pieces.{all_images}
use Rattle.gfx_digest.proofs.images.hash_frame.Goals as goal

pub returns : goal.returns
returns g c before held =
    let ended : c.pictures.index ≡ length c.as_slice-pictures.result.now = omega arith in
    subst (Holds256 c.pictures.hasher)
    (all_images (g.B.StateBytes.bytes c.args.bytes.now) before c.args.frame.now c.as_slice-pictures.result.now c.pictures.index c.as_slice-pictures.ensures.value ended)
    (c.pictures.invariant.holds before held)
