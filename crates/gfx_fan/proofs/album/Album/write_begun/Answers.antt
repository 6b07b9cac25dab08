use Rattle.std.proofs.Common.{◌∙◌, ◌++◌, drop, ap, subst, sym, arith}
use Rattle.std.proofs.lemmas.List.{drop-drop}
use Rattle.gfx_frames.proofs.SoFar.{SoFar, so_far_front, so_far_more, so_far_part}
use Rattle.gfx_fan.specs.Kept.{kept_lines, lines_of, newer, older}
use Rattle.gfx_fan.proofs.Keeping.{oldest_line}
use Rattle.gfx_fan.proofs.album.Album.write_begun.Goals.{in-Some+in_ok-write, in_default}
use Rattle.gfx_fan.proofs.album.Album.write_begun.Goals as goal

pub returns-in_err-write-clause-front : goal.returns-in_err-write-clause-front
returns-in_err-write-clause-front g c =
    let a = g.K.Sink.taken c.args.sink.now in
    let b = g.K.Sink.taken c.images.sink in
    let text = kept_lines c.args.self.now in
    so_far_part a b (g.K.Sink.taken c.write.new.sink) text _ _
    (subst (SoFar a b text) (oldest_line c.images.self.begun.items c.pop_front.new.self.items c.in-Some.begun c.images.self.shown.items c.in-Some.ensures.items) c.images.invariant.written)
    c.in_err-write.ensures.front

pub images-preserved : goal.images-preserved
images-preserved g c =
    let a = g.K.Sink.taken c.args.sink.now in
    let b = g.K.Sink.taken c.images.sink in
    let text = kept_lines c.args.self.now in
    let rest = lines_of (older c.pop_front.new.self.items ++ newer c.images.self.shown.items) in
    record {
      screen = c.images.invariant.screen;
      shown = c.images.invariant.shown;
      size = c.images.invariant.size;
      begun = c.pop_front.ensures.rest ∙ ap (drop 1) c.images.invariant.begun ∙ drop-drop 1 c.images._index c.args.self.now.begun.items;
      written = elim c.match-pop_front.branch [
        | in-Some+in_ok-write w ↦
            subst (λ sink. SoFar a (g.K.Sink.taken sink) text rest) (sym w.sink-is)
            (so_far_more a b (g.K.Sink.taken w.write.new.sink) text _ _
            (subst (SoFar a b text) (oldest_line c.images.self.begun.items c.pop_front.new.self.items w.in-Some.begun c.images.self.shown.items w.in-Some.ensures.items) c.images.invariant.written)
            w.in_ok-write.ensures.ok)
        | in_default w ↦
            subst (λ sink. SoFar a (g.K.Sink.taken sink) text rest) (sym w.sink-is)
            (subst (SoFar a b text) (ap (λ bs. lines_of (older bs ++ newer c.images.self.shown.items)) w.in_default.ensures.items) c.images.invariant.written)
      ];
      later = elim c.match-pop_front.branch [
        | in-Some+in_ok-write w ↦ omega (arith, ap (λ sink. g.K.Sink.faults sink) w.sink-is, c.images.invariant.later, w.in_ok-write.ensures.later)
        | in_default w ↦ omega (arith, ap (λ sink. g.K.Sink.faults sink) w.sink-is, c.images.invariant.later)
      ];
    }

pub returns-clause-front : goal.returns-clause-front
returns-clause-front g c = so_far_front (g.K.Sink.taken c.args.sink.now) (g.K.Sink.taken c.images.sink) (kept_lines c.args.self.now) _ c.images.invariant.written
