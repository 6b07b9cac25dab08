use Rattle.std.proofs.Common.{arith, ap, sym, ◌∙◌, ◌≡◌, ◌++◌, ◌∷◌, [], map}
use Rattle.std.specs.List.{range_with_len}
use Rattle.std.proofs.lemmas.List.FromFn.{map-range_with_len_more}
use Rattle.gfx_make.specs.Made.{frame_byte, frame_bytes}
use Rattle.gfx_make.proofs.frame.bytes_of.Goals as goal

pub bytes-preserved : goal.bytes-preserved
bytes-preserved c =
    let byte = frame_byte c.args.frame in
    c.in_ok-push.ensures.items ∙ ap (λ l. l ++ byte c.bytes.j ∷ []) c.bytes.invariant
    ∙ sym (map-range_with_len_more byte 0 c.bytes.j c.bytes.j (omega arith))

pub returns : goal.returns
unfolding frame_bytes
returns c =
    let end : c.bytes.j ≡ 40960 = omega arith in
    c.bytes.invariant ∙ ap (λ n. map (frame_byte c.args.frame) (range_with_len 0 n)) end
