use Rattle.std.proofs.Common.{◌≡◌, ◌+◌, ◌-◌, ◌≤◌, ap, take, drop, length, arith, ◌∙◌, length-take, length-drop, length-take-le}
use Rattle.gfx_decode.proofs.Buffer.{front_kept, piece_behind}
use Rattle.gfx_decode.proofs.reading.read_over.Goals as goal
use Rattle.gfx_decode.proofs.reading.read_over.Goals.{then-len-end+in_ok-resize, else-len-end}

pub returns-clause-piece : goal.returns-clause-piece
returns-clause-piece g c =
    let held = c.args.buffer.now.items in
    let old = c.deref_mut.result.now in
    let new = c.fill.new.into in
    let front = c.args.front in
    let count = c.in_ok-fill.field-0 in
    let long : front + c.args.most ≤ c.if-len-end.buffer.len = elim c.if-len-end.branch [
      | then-len-end+in_ok-resize w ↦ rw w.buffer-is (omega (arith, w.in_ok-resize.ensures.len))
      | else-len-end w ↦ rw w.buffer-is (omega (arith, w.if-len-end.false, c.len.ensures))
    ] in
    let kept : take front c.if-len-end.buffer.items ≡ take front held = elim c.if-len-end.branch [
      | then-len-end+in_ok-resize w ↦ rw w.buffer-is (front_kept held _ _ front (front + c.args.most) (omega (arith, c.requires.within, c.args.buffer.now.ok.0)) (omega (arith, w.if-len-end.true, c.len.ensures, c.args.buffer.now.ok.0)) w.in_ok-resize.ensures.items)
      | else-len-end w ↦ ap (λ b. take front b.items) w.buffer-is
    ] in
    let room : length new ≡ c.args.most = omega (arith, long, c.deref_mut.ensures.len, c.fill.auto.into, length-take (front + c.args.most - front) (drop front old), length-drop front old) in
    let behind = piece_behind (take front held) old new _ front _ c.if-len-end.buffer.len count (ap (take front) c.deref_mut.ensures.value ∙ kept) (omega (arith, long, c.deref_mut.ensures.len)) c.in_ok-fill.ensures.bound (omega (arith, room, long)) in
    (take count new, length-take-le count new c.in_ok-fill.ensures.bound, behind, c.in_ok-fill.ensures.bytes)
