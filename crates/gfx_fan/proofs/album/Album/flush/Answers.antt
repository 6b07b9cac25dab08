use Rattle.std.proofs.Common.{◌≡◌, ◌∙◌, ◌++◌, drop, length, ap, subst, arith}
use Rattle.gfx_frames.proofs.SoFar.{SoFar}
use Rattle.gfx_fan.specs.Kept.{kept_lines, lines_of, newer, older}
use Rattle.gfx_fan.proofs.Keeping.{left_all, left_part}
use Rattle.gfx_fan.proofs.album.Album.flush.Goals as goal

pub returns-in_err-write_shown-clause-front : goal.returns-in_err-write_shown-clause-front
returns-in_err-write_shown-clause-front g c =
    let k = c.args.self.now in
    let same = c.make_contiguous.ensures.writes_back c.make_contiguous.result.now c.make_contiguous.ensures.len ∙ c.make_contiguous.ensures.value in
    let count : c.len-count.result ≡ length k.begun.items = omega (arith, c.len-count.ensures) in
    left_part (g.K.Sink.taken c.args.sink.now) (g.K.Sink.taken c.write_begun.new.sink) (g.K.Sink.taken c.write_shown.new.sink) (kept_lines k) k.begun.items c.write_begun.new.self.begun.items
    c.write_begun.new.self.shown.items (c.in_ok-write_begun.ensures.begun ∙ ap (λ n. drop n k.begun.items) count)
    (subst (λ text. SoFar (g.K.Sink.taken c.args.sink.now) (g.K.Sink.taken c.write_begun.new.sink) text (kept_lines c.write_begun.new.self)) (ap (λ ss. lines_of (older k.begun.items ++ newer ss)) same) c.in_ok-write_begun.ensures.ok)
    c.in_err-write_shown.ensures.front

pub returns-clause-ok : goal.returns-clause-ok
returns-clause-ok g c =
    let k = c.args.self.now in
    let same = c.make_contiguous.ensures.writes_back c.make_contiguous.result.now c.make_contiguous.ensures.len ∙ c.make_contiguous.ensures.value in
    let count : c.len-count.result ≡ length k.begun.items = omega (arith, c.len-count.ensures) in
    left_all (g.K.Sink.taken c.args.sink.now) (g.K.Sink.taken c.write_begun.new.sink) (g.K.Sink.taken c.write_shown.new.sink) (kept_lines k) k.begun.items c.write_begun.new.self.begun.items
    c.write_begun.new.self.shown.items (c.in_ok-write_begun.ensures.begun ∙ ap (λ n. drop n k.begun.items) count)
    (subst (λ text. SoFar (g.K.Sink.taken c.args.sink.now) (g.K.Sink.taken c.write_begun.new.sink) text (kept_lines c.write_begun.new.self)) (ap (λ ss. lines_of (older k.begun.items ++ newer ss)) same) c.in_ok-write_begun.ensures.ok)
    c.in_ok-write_shown.ensures.ok

pub returns-clause-front : goal.returns-clause-front
returns-clause-front g c =
    let k = c.args.self.now in
    let same = c.make_contiguous.ensures.writes_back c.make_contiguous.result.now c.make_contiguous.ensures.len ∙ c.make_contiguous.ensures.value in
    let count : c.len-count.result ≡ length k.begun.items = omega (arith, c.len-count.ensures) in
    left_part (g.K.Sink.taken c.args.sink.now) (g.K.Sink.taken c.write_begun.new.sink) (g.K.Sink.taken c.write_shown.new.sink) (kept_lines k) k.begun.items c.write_begun.new.self.begun.items
    c.write_begun.new.self.shown.items (c.in_ok-write_begun.ensures.begun ∙ ap (λ n. drop n k.begun.items) count)
    (subst (λ text. SoFar (g.K.Sink.taken c.args.sink.now) (g.K.Sink.taken c.write_begun.new.sink) text (kept_lines c.write_begun.new.self)) (ap (λ ss. lines_of (older k.begun.items ++ newer ss)) same) c.in_ok-write_begun.ensures.ok)
    c.in_ok-write_shown.ensures.front
