use Rattle.std.proofs.Common.{ap, subst, sym, ◌∙◌, arith}
use Rattle.gfx_frames.specs.Texts.{text_of}
use Rattle.gfx_frames.proofs.SoFar.{SoFar, so_far_none, so_far_more, so_far_part, so_far_front}
use Rattle.gfx_frames.proofs.Listed.{lines_from, text_is, next_lines}
use Rattle.gfx_frames.proofs.lines.write_pictures.Goals as goal

pub pictures-init : goal.pictures-init
pictures-init g c =
    let a = g.K.Sink.taken c.args.sink.now in
    let places = g.B.StateBytes.bytes c.args.bytes.now in
    let text = text_of places c.args.listing c.args.frame.now in
    record {
      written = subst (SoFar a a text) (text_is places c.args.listing c.args.frame.now ∙ ap (lines_from places c.args.listing c.args.frame.now.number 1) (sym c.as_slice-pictures.ensures.value)) (so_far_none a text);
      later = omega arith;
    }

pub returns-in_err-title-clause-front : goal.returns-in_err-title-clause-front
returns-in_err-title-clause-front g c =
    so_far_front (g.K.Sink.taken c.args.sink.now) (g.K.Sink.taken c.pictures.sink) (text_of (g.B.StateBytes.bytes c.args.bytes.now) c.args.listing c.args.frame.now) _ c.pictures.invariant.written

pub returns-in_err-write_picture-clause-front : goal.returns-in_err-write_picture-clause-front
returns-in_err-write_picture-clause-front g c =
    let a = g.K.Sink.taken c.args.sink.now in
    let b = g.K.Sink.taken c.pictures.sink in
    let places = g.B.StateBytes.bytes c.args.bytes.now in
    let text = text_of places c.args.listing c.args.frame.now in
    so_far_part a b (g.K.Sink.taken c.write_picture.new.sink) text _ _
    (subst (SoFar a b text)
    (next_lines places c.args.listing c.args.frame.now.number c.pictures.index c.as_slice-pictures.result.now _ c.as_str.result.now c.pictures-test.true (c.as_str.ensures.value ∙ c.in_ok-title.ensures))
    c.pictures.invariant.written)
    c.in_err-write_picture.ensures.front

pub pictures-preserved : goal.pictures-preserved
pictures-preserved g c =
    let a = g.K.Sink.taken c.args.sink.now in
    let b = g.K.Sink.taken c.pictures.sink in
    let places = g.B.StateBytes.bytes c.args.bytes.now in
    let text = text_of places c.args.listing c.args.frame.now in
    record {
      written = so_far_more a b (g.K.Sink.taken c.write_picture.new.sink) text _ _
          (subst (SoFar a b text)
          (next_lines places c.args.listing c.args.frame.now.number c.pictures.index c.as_slice-pictures.result.now _ c.as_str.result.now c.pictures-test.true (c.as_str.ensures.value ∙ c.in_ok-title.ensures))
          c.pictures.invariant.written)
          c.in_ok-write_picture.ensures.ok;
      later = omega arith;
    }

pub returns-clause-front : goal.returns-clause-front
returns-clause-front g c =
    so_far_front (g.K.Sink.taken c.args.sink.now) (g.K.Sink.taken c.pictures.sink) (text_of (g.B.StateBytes.bytes c.args.bytes.now) c.args.listing c.args.frame.now) _ c.pictures.invariant.written
