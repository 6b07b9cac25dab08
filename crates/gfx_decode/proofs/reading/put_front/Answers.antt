use Rattle.std.proofs.Common.{◌+◌, ◌++◌, List, ℕ, take, drop, length, arith, ap, ◌∙◌, take_all, take_at, length-append}
use Rattle.std.proofs.lemmas.List.{take-append-le}
use Rattle.gfx_decode.proofs.reading.put_front.Goals as goal

pub returns : goal.returns
returns c =
    let head = c.args.head.now in
    let rest = drop (0 + length head) c.deref_mut.result.now in
    let is = take_at c.set_bytes.new.bytes (drop (length c.set_bytes.new.bytes) c.if-len-lt12.buffer.items) c.if-len-lt12.buffer.len
    (omega (arith, c.set_bytes.auto.bytes, ap length c.deref_mut.ensures.value, c.if-len-lt12.buffer.ok.0))
    ∙ c.set_bytes.ensures ∙ ap (λ (xs : List ℕ). xs ++ rest) (take_all (length head) head (omega arith)) in
    (omega (arith, ap length is, length-append head rest), ap (take (length head)) is ∙ take-append-le (length head) head rest (omega arith) ∙ take_all (length head) head (omega arith))
