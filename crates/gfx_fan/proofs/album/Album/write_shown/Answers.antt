use Rattle.std.proofs.Common.{ap, subst, arith}
use Rattle.std.specs.Io.KnownBytes.{Appends}
use Rattle.std.proofs.lemmas.List.{drop_all}
use Rattle.gfx_io.specs.Pieces.{AppendsPart}
use Rattle.gfx_frames.proofs.SoFar.{SoFar, so_far_all, so_far_front, so_far_more, so_far_part}
use Rattle.gfx_fan.specs.Kept.{lines_of, newer}
use Rattle.gfx_fan.proofs.Keeping.{next_line, written_line}
use Rattle.gfx_fan.proofs.album.Album.write_shown.Goals as goal

pub returns-in_err-write-clause-front : goal.returns-in_err-write-clause-front
returns-in_err-write-clause-front g c =
    let a = g.K.Sink.taken c.args.sink.now in
    let b = g.K.Sink.taken c.images.sink in
    let shown = c.args.self.now.shown.items in
    let text = lines_of (newer shown) in
    so_far_part a b (g.K.Sink.taken c.write.new.sink) text _ _
    (subst (SoFar a b text) (next_line shown c.images.index c.index.result.now (omega arith) c.index.ensures) c.images.invariant.written)
    (subst (AppendsPart b (g.K.Sink.taken c.write.new.sink)) (written_line shown c.args.digests.now c.images.index c.index.result.now (omega arith) c.requires c.index.ensures) c.in_err-write.ensures.front)

pub images-preserved : goal.images-preserved
images-preserved g c =
    let a = g.K.Sink.taken c.args.sink.now in
    let b = g.K.Sink.taken c.images.sink in
    let shown = c.args.self.now.shown.items in
    let text = lines_of (newer shown) in
    record {
      written = so_far_more a b (g.K.Sink.taken c.write.new.sink) text _ _
          (subst (SoFar a b text) (next_line shown c.images.index c.index.result.now (omega arith) c.index.ensures) c.images.invariant.written)
          (subst (Appends b (g.K.Sink.taken c.write.new.sink)) (written_line shown c.args.digests.now c.images.index c.index.result.now (omega arith) c.requires c.index.ensures) c.in_ok-write.ensures.ok);
      later = omega (arith, c.images.invariant.later, c.in_ok-write.ensures.later);
    }

pub returns-clause-ok : goal.returns-clause-ok
returns-clause-ok g c =
    let a = g.K.Sink.taken c.args.sink.now in
    let b = g.K.Sink.taken c.images.sink in
    let text = lines_of (newer c.args.self.now.shown.items) in
    so_far_all a b text (subst (SoFar a b text) (ap (λ ss. lines_of (newer ss)) (drop_all c.images.index c.args.self.now.shown.items (omega arith))) c.images.invariant.written)

pub returns-clause-front : goal.returns-clause-front
returns-clause-front g c = so_far_front (g.K.Sink.taken c.args.sink.now) (g.K.Sink.taken c.images.sink) (lines_of (newer c.args.self.now.shown.items)) _ c.images.invariant.written
