use Rattle.std.proofs.Common.{◌≡◌, ◌+◌, ◌-◌, take, drop, length, arith, ap, ◌∙◌, length-take, length-drop, length-take-le, take_all}
use Rattle.gfx_decode.proofs.Buffer.{front_kept, piece_behind}
use Rattle.gfx_list.proofs.Finding.{consumes_none, piece_none}
use Rattle.gfx_list.proofs.reading.read_some.Goals as goal

pub returns-in-Ok-clause-some : goal.returns-in-Ok-clause-some
returns-in-Ok-clause-some g c =
    let held = c.args.buffer.now.items in
    let old = c.deref_mut.result.now in
    let new = c.read.new.into in
    let front = c.len-front.result in
    let count = c.in-Ok.count in
    let all : front ≡ length held = c.len-front.ensures ∙ c.args.buffer.now.ok.0 in
    let size : length old ≡ front + 65536 = c.deref_mut.ensures.len ∙ c.in_ok-resize.ensures.len in
    let room : length new ≡ 65536 = omega (arith, size, c.read.auto.into, length-take (length old - front) (drop front old), length-drop front old) in
    let made = c.deref_mut.ensures.value ∙ c.in_ok-resize.ensures.items in
    let kept : take front old ≡ held = front_kept held old _ front (front + 65536) (omega (arith, all)) (omega (arith, all)) made ∙ take_all front held (omega (arith, all)) in
    let behind = piece_behind held old new _ front (length old - front) c.resize.new.self.len count kept (omega (arith, size))
    c.in-Ok.ensures.bound.0 (omega (arith, room, c.in_ok-resize.ensures.len)) in
    (take count new, length-take-le count new c.in-Ok.ensures.bound.0, c.truncate.ensures.items ∙ behind, c.in-Ok.ensures.bytes.0)

pub returns-in-Ok-clause-ended : goal.returns-in-Ok-clause-ended
returns-in-Ok-clause-ended g c none =
    let old = c.deref_mut.result.now in
    let front = c.len-front.result in
    let size : length old ≡ front + 65536 = c.deref_mut.ensures.len ∙ c.in_ok-resize.ensures.len in
    c.in-Ok.ensures.bytes.1 none (omega (arith, size, c.read.auto.into, length-take (length old - front) (drop front old), length-drop front old))

pub returns-in-Err-clause-none : goal.returns-in-Err-clause-none
returns-in-Err-clause-none g c = consumes_none _ _ c.in-Err.ensures.bytes

pub returns-in-Err-clause-kept : goal.returns-in-Err-clause-kept
returns-in-Err-clause-kept g c is =
    let held = c.args.buffer.now.items in
    let old = c.deref_mut.result.now in
    let new = c.read.new.into in
    let front = c.len-front.result in
    let all : front ≡ length held = c.len-front.ensures ∙ c.args.buffer.now.ok.0 in
    let size : length old ≡ front + 65536 = c.deref_mut.ensures.len ∙ c.in_ok-resize.ensures.len in
    let room : length new ≡ 65536 = omega (arith, size, c.read.auto.into, length-take (length old - front) (drop front old), length-drop front old) in
    let made = c.deref_mut.ensures.value ∙ c.in_ok-resize.ensures.items in
    let kept : take front old ≡ held = front_kept held old _ front (front + 65536) (omega (arith, all)) (omega (arith, all)) made ∙ take_all front held (omega (arith, all)) in
    c.truncate-in-Err.ensures.items ∙ piece_none held old new _ front (length old - front) c.resize.new.self.len kept (omega (arith, size)) (omega (arith, room, c.in_ok-resize.ensures.len))
