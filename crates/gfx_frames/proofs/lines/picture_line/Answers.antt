use Rattle.std.proofs.Common.{◌≡◌, IfOk, string_bytes, ap, subst, ◌∙◌}
use Rattle.hex.specs.Hex.{encode_lower}
use Rattle.gfx_frames.specs.Texts.{digest_line}
use Rattle.gfx_frames.proofs.Hex.{hex_same}
use Rattle.gfx_frames.proofs.lines.picture_line.Goals as goal

pub returns : goal.returns
returns c =
    subst (λ hex. IfOk c.digest_line.result (λ text. string_bytes text ≡ digest_line c.args.title.now c.args.picture.now hex))
    (c.as_str.ensures.value ∙ c.in_ok-hex.ensures ∙ ap encode_lower c.as_slice.ensures ∙ hex_same c.args.digest.now c.fits-digest) c.digest_line.ensures
