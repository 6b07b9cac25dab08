use Rattle.std.proofs.Common.{◌≡◌, ℕ, List, ◌*◌, ◌≤◌, length, take, sym, subst, ◌∙◌, length-take-le, arith}
use Rattle.std.specs.Io.KnownBytes.{Appends}
use Rattle.gfx_types.specs.Names.{texel_of}
use Rattle.gfx_replay.specs.Shown.{picture_of}
use Rattle.gfx_frames.specs.Texts.{rows_of}
use Rattle.gfx_frames.proofs.RowLines.{rows_to, took_row, part_before, part_row}
use Rattle.gfx_frames.proofs.Inside.{row_inside, row_is}
use Rattle.gfx_frames.proofs.rows.write_rows.Goals as goal

-- the part of the buffer that a row fills is as long as it
long_by : (n size : ℕ) (row buffer : List ℕ) → n ≡ size → size ≤ length buffer → length row ≡ length (take n buffer) → length row ≡ n
long_by n size row buffer is room same = same ∙ length-take-le n buffer (subst (λ m. m ≤ length buffer) (sym is) room)

pub read-requires : goal.read-requires
read-requires g c =
    let p = c.args.picture.now in
    let size = c.row_bytes-size.ensures in
    row_inside (g.B.StateBytes.bytes c.args.bytes.now p.place) c.rows.k p.height c.row_bytes-size.result (p.width * texel_of p.format) c.from.result (length c.rows.row)
    c.requires.there.there c.rows-test.true c.from.ensures size (long_by c.row_bytes-size.result (p.width * texel_of p.format) c.rows.row c.args.buffer.now size c.requires.room c.rows.auto.row ∙ size)

pub returns-in_err-text-clause-front : goal.returns-in_err-text-clause-front
unfolding rows_of
returns-in_err-text-clause-front g c =
    let p = picture_of (g.B.StateBytes.bytes c.args.bytes.now) c.args.picture.now in
    let below : c.rows.k ≤ p.height = omega arith in
    part_before (g.K.Sink.taken c.args.sink.now) (g.K.Sink.taken c.rows.sink) p c.rows.k below c.rows.invariant.took

pub returns-in_err-write_whole-clause-front : goal.returns-in_err-write_whole-clause-front
unfolding rows_of
returns-in_err-write_whole-clause-front g c =
    let p = picture_of (g.B.StateBytes.bytes c.args.bytes.now) c.args.picture.now in
    part_row (g.K.Sink.taken c.args.sink.now) (g.K.Sink.taken c.rows.sink) (g.K.Sink.taken c.write_whole.new.sink) p c.rows.k c.row_bytes-size.result c.read.new.into c.as_bytes.result.now
    c.rows-test.true c.row_bytes-size.ensures
    (row_is p.pixels c.from.result c.rows.k c.row_bytes-size.result (length c.rows.row) c.read.new.into c.from.ensures (long_by c.row_bytes-size.result (c.args.picture.now.width * texel_of c.args.picture.now.format) c.rows.row c.args.buffer.now c.row_bytes-size.ensures c.requires.room c.rows.auto.row) c.read.ensures)
    (c.as_bytes.ensures.value ∙ c.in_ok-text.ensures) c.rows.invariant.took c.in_err-write_whole.ensures.failed

pub rows-preserved : goal.rows-preserved
rows-preserved g c =
    let p = picture_of (g.B.StateBytes.bytes c.args.bytes.now) c.args.picture.now in
    record {
      took = took_row (g.K.Sink.taken c.args.sink.now) (g.K.Sink.taken c.rows.sink) (g.K.Sink.taken c.write_whole.new.sink) p c.rows.k c.row_bytes-size.result c.read.new.into c.as_bytes.result.now
          c.row_bytes-size.ensures
          (row_is p.pixels c.from.result c.rows.k c.row_bytes-size.result (length c.rows.row) c.read.new.into c.from.ensures (long_by c.row_bytes-size.result (c.args.picture.now.width * texel_of c.args.picture.now.format) c.rows.row c.args.buffer.now c.row_bytes-size.ensures c.requires.room c.rows.auto.row) c.read.ensures)
          (c.as_bytes.ensures.value ∙ c.in_ok-text.ensures) c.rows.invariant.took c.in_ok-write_whole.ensures.bytes;
      later = omega arith;
    }

pub returns-clause-front : goal.returns-clause-front
unfolding rows_of
returns-clause-front g c =
    let p = picture_of (g.B.StateBytes.bytes c.args.bytes.now) c.args.picture.now in
    let below : c.rows.k ≤ p.height = omega arith in
    part_before (g.K.Sink.taken c.args.sink.now) (g.K.Sink.taken c.rows.sink) p c.rows.k below c.rows.invariant.took

pub returns-clause-ok : goal.returns-clause-ok
unfolding rows_of
returns-clause-ok g c =
    let p = picture_of (g.B.StateBytes.bytes c.args.bytes.now) c.args.picture.now in
    let all : c.rows.k ≡ p.height = omega arith in
    subst (λ n. Appends (g.K.Sink.taken c.args.sink.now) (g.K.Sink.taken c.rows.sink) (rows_to p n)) all c.rows.invariant.took
