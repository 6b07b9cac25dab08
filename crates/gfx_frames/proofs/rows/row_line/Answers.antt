use Rattle.std.proofs.Common.{◌++◌, ◌∷◌, [], string_bytes, ap, ◌∙◌, arith}
use Rattle.gfx_frames.proofs.Hex.{hex_same}
use Rattle.gfx_frames.proofs.rows.row_line.Goals as goal

pub returns : goal.returns
returns c =
    c.in_ok-push.ensures.bytes
    ∙ ap (λ end. string_bytes c.in_ok-text.text ++ end) (c.in_ok-push.ensures.ascii (omega arith))
    ∙ ap (λ text. text ++ 10 ∷ []) (c.in_ok-text.ensures ∙ hex_same c.args.row.now (λ i. omega (arith, c.type_inv.row i)))
