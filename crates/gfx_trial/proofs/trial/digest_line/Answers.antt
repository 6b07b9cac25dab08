use Rattle.std.proofs.Common.{◌≡◌, ◌++◌, IfOk, codes, string_bytes, ap, subst, ◌∙◌}
use Rattle.hex.specs.Hex.{encode_lower}
use Rattle.gfx_frames.proofs.Hex.{hex_same}
use Rattle.gfx_trial.specs.Text.{digest_line, line_feed}
use Rattle.gfx_trial.proofs.trial.digest_line.Goals as goal

pub returns : goal.returns
unfolding digest_line
returns c =
    subst (λ hex. IfOk c.hex_line.result (λ text. string_bytes text ≡ codes "digest " ++ hex ++ line_feed))
    (c.as_str.ensures.value ∙ c.in_ok-hex.ensures ∙ ap encode_lower c.as_slice.ensures ∙ hex_same c.args.digest.now c.fits-digest) c.hex_line.ensures
