use Rattle.std.proofs.Common.{subst, sym}
use Rattle.std.specs.Io.KnownBytes.{Appends}
use Rattle.gfx_io.specs.Pieces.{AppendsPart}
use Rattle.gfx_frames.specs.Texts.{first_line, rows_of, lines_of}
use Rattle.gfx_io.proofs.Appending.{appends_then, part_then, part_of}
use Rattle.gfx_frames.proofs.SoFar.{on_ok}
use Rattle.gfx_frames.proofs.Listed.{with_rows, without_rows, lines_front}
use Rattle.gfx_frames.proofs.lines.write_picture.Goals as goal

pub returns-in_err-write_digest-clause-front : goal.returns-in_err-write_digest-clause-front
returns-in_err-write_digest-clause-front g c =
    let places = g.B.StateBytes.bytes c.args.bytes.now in
    let p = c.args.picture.now in
    let rest = lines_front places c.args.pixels c.args.title.now p in
    subst (AppendsPart (g.K.Sink.taken c.args.sink.now) (g.K.Sink.taken c.write_digest.new.sink)) (sym rest.1)
    (part_of (g.K.Sink.taken c.args.sink.now) (g.K.Sink.taken c.write_digest.new.sink) (first_line places c.args.title.now p) rest.0 c.in_err-write_digest.ensures.front)

pub returns-then-not-pixels-clause-ok : goal.returns-then-not-pixels-clause-ok
returns-then-not-pixels-clause-ok g c =
    subst (Appends (g.K.Sink.taken c.args.sink.now) (g.K.Sink.taken c.write_digest.new.sink))
    (sym (without_rows (g.B.StateBytes.bytes c.args.bytes.now) c.args.pixels c.args.title.now c.args.picture.now c.if-not-pixels.true)) c.in_ok-write_digest.ensures.ok

pub returns-then-not-pixels-clause-front : goal.returns-then-not-pixels-clause-front
returns-then-not-pixels-clause-front g c =
    subst (AppendsPart (g.K.Sink.taken c.args.sink.now) (g.K.Sink.taken c.write_digest.new.sink))
    (sym (without_rows (g.B.StateBytes.bytes c.args.bytes.now) c.args.pixels c.args.title.now c.args.picture.now c.if-not-pixels.true)) c.in_ok-write_digest.ensures.front

pub returns-clause-ok : goal.returns-clause-ok
returns-clause-ok g c =
    let a = g.K.Sink.taken c.args.sink.now in
    let b = g.K.Sink.taken c.write_digest.new.sink in
    let d = g.K.Sink.taken c.write_rows.new.sink in
    let places = g.B.StateBytes.bytes c.args.bytes.now in
    let p = c.args.picture.now in
    on_ok c.write_rows.result (Appends b d (rows_of places p)) (Appends a d (lines_of places c.args.pixels c.args.title.now p))
    (λ more. subst (Appends a d) (sym (with_rows places c.args.pixels c.args.title.now p c.if-not-pixels.false))
    (appends_then a b d (first_line places c.args.title.now p) (rows_of places p) c.in_ok-write_digest.ensures.ok more))
    c.write_rows.ensures.ok

pub returns-clause-front : goal.returns-clause-front
returns-clause-front g c =
    let a = g.K.Sink.taken c.args.sink.now in
    let b = g.K.Sink.taken c.write_digest.new.sink in
    let d = g.K.Sink.taken c.write_rows.new.sink in
    let places = g.B.StateBytes.bytes c.args.bytes.now in
    let p = c.args.picture.now in
    subst (AppendsPart a d) (sym (with_rows places c.args.pixels c.args.title.now p c.if-not-pixels.false))
    (part_then a b d (first_line places c.args.title.now p) (rows_of places p) c.in_ok-write_digest.ensures.ok c.write_rows.ensures.front)
