use Rattle.std.proofs.Common.{◌++◌, ◌+◌, refl, ap, subst, sym, ◌∙◌, arith}
use Rattle.gfx_frames.specs.Texts.{text_of}
use Rattle.gfx_replay.specs.Replayer.{bytes_of}
use Rattle.gfx_frames.proofs.Listed.{lines_from, text_is}
use Rattle.gfx_frames.proofs.SoFar.{SoFar, so_far_front, so_far_none, so_far_part}
use Rattle.gfx_fan.specs.Kept.{kept_lines}
use Rattle.gfx_fan.proofs.Keeping.{last_kept, next_kept, so_far_step}
use Rattle.gfx_fan.proofs.album.Album.show.Goals as goal

pub pictures-init : goal.pictures-init
pictures-init g c =
    let a = g.K.Sink.taken c.args.sink.now in
    let places = bytes_of c.args.replayer.now in
    let l = c.args.self.now.screen.listing in
    let kept = kept_lines c.args.self.now in
    let text = kept ++ text_of places l c.args.frame.now in
    record {
      screen = refl;
      small = c.requires.ready.small;
      written = subst (SoFar a a text) (ap (λ t. kept ++ t) (text_is places l c.args.frame.now ∙ ap (lines_from places l c.args.frame.now.number 1) (sym c.as_slice-pictures.ensures.value))) (so_far_none a text);
      later = omega arith;
    }

pub returns-in_err-title-clause-front : goal.returns-in_err-title-clause-front
returns-in_err-title-clause-front g c =
    so_far_front (g.K.Sink.taken c.args.sink.now) (g.K.Sink.taken c.pictures.sink) (kept_lines c.args.self.now ++ text_of (bytes_of c.args.replayer.now) c.args.self.now.screen.listing c.args.frame.now) _
    c.pictures.invariant.written

pub returns-in_err-take-clause-front : goal.returns-in_err-take-clause-front
returns-in_err-take-clause-front g c =
    let a = g.K.Sink.taken c.args.sink.now in
    let b = g.K.Sink.taken c.pictures.sink in
    let places = bytes_of c.args.replayer.now in
    let l = c.args.self.now.screen.listing in
    let text = kept_lines c.args.self.now ++ text_of places l c.args.frame.now in
    so_far_part a b (g.K.Sink.taken c.take.new.sink) text _ _
    (subst (SoFar a b text)
    (next_kept places l c.args.frame.now.number c.pictures.index c.as_slice-pictures.result.now _ _ (kept_lines c.pictures.self) c.pictures-test.true c.requires.ready.plain_is c.in_ok-title.ensures)
    c.pictures.invariant.written)
    c.in_err-take.ensures.front

pub pictures-preserved : goal.pictures-preserved
pictures-preserved g c =
    let a = g.K.Sink.taken c.args.sink.now in
    let b = g.K.Sink.taken c.pictures.sink in
    let places = bytes_of c.args.replayer.now in
    let l = c.args.self.now.screen.listing in
    let text = kept_lines c.args.self.now ++ text_of places l c.args.frame.now in
    record {
      screen = c.in_ok-take.ensures.screen ∙ c.pictures.invariant.screen;
      small = c.in_ok-take.ensures.small;
      written = so_far_step a b (g.K.Sink.taken c.take.new.sink) text (kept_lines c.pictures.self) _ _ (kept_lines c.take.new.self)
          (subst (SoFar a b text)
          (next_kept places l c.args.frame.now.number c.pictures.index c.as_slice-pictures.result.now _ _ (kept_lines c.pictures.self) c.pictures-test.true c.requires.ready.plain_is c.in_ok-title.ensures)
          c.pictures.invariant.written)
          c.in_ok-take.ensures.ok;
      later = omega (arith, c.pictures.invariant.later, c.in_ok-take.ensures.later);
    }

pub returns-clause-ok : goal.returns-clause-ok
returns-clause-ok g c =
    let a = g.K.Sink.taken c.args.sink.now in
    let b = g.K.Sink.taken c.pictures.sink in
    let places = bytes_of c.args.replayer.now in
    let l = c.args.self.now.screen.listing in
    let text = kept_lines c.args.self.now ++ text_of places l c.args.frame.now in
    let same = c.pictures.invariant.screen in
    let small = c.pictures.invariant.small in
    let held = small.held in
    record {
      asked = ap (λ s. s.asked) same;
      listing = ap (λ s. s.listing) same;
      count = ap (λ s. s.count + 1) same;
      small = record {
        held = record { counted = held.counted; few = held.few; small = held.small; older_few = held.older_few; older_small = held.older_small };
        few = small.few;
        small = small.small;
      };
      text_is = subst (SoFar a b text) (last_kept places l c.args.frame.now.number c.pictures.index c.as_slice-pictures.result.now (kept_lines c.pictures.self) (omega arith)) c.pictures.invariant.written;
    }

pub returns-clause-front : goal.returns-clause-front
returns-clause-front g c =
    so_far_front (g.K.Sink.taken c.args.sink.now) (g.K.Sink.taken c.pictures.sink) (kept_lines c.args.self.now ++ text_of (bytes_of c.args.replayer.now) c.args.self.now.screen.listing c.args.frame.now) _
    c.pictures.invariant.written
