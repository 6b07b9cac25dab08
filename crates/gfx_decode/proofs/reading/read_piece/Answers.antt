use Rattle.std.proofs.Common.{◌≡◌, ◌++◌, List, ℕ, take, arith, ap, ◌∙◌, take_all}
use Rattle.gfx_decode.proofs.reading.read_piece.Goals as goal

pub returns-clause-piece : goal.returns-clause-piece
returns-clause-piece g c =
    let held = c.args.buffer.now.items in
    let (piece, long, grown, came) = c.in_ok-count.ensures.piece in
    let all : take c.len-front.result held ≡ held = take_all c.len-front.result held (omega (arith, c.len-front.ensures, c.args.buffer.now.ok.0)) in
    (piece, long, c.truncate.ensures.items ∙ grown ∙ ap (λ (xs : List ℕ). xs ++ piece) all, came)
