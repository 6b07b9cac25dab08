use Rattle.std.proofs.Common.{◌++◌, ◌≤◌, ◌^◌, ◌∙◌, length, ap, subst, sym}
use Rattle.std.specs.Prelude.{[], unwrap_or}
use Rattle.gfx_io.specs.Pieces.{AppendsPart}
use Rattle.gfx_io.proofs.Appending.{nothing_written}
use Rattle.gfx_frames.proofs.SoFar.{SoFar}
use Rattle.std.proofs.lemmas.Result.{on_ok_weaker}
use Rattle.gfx_replay.specs.Replayer.{bytes_of}
use Rattle.gfx_fan.specs.Kept.{kept_lines, line_of}
use Rattle.gfx_fan.proofs.Keeping.{few_bytes, is_small, kept_line, so_far_kept, some_there}
use Rattle.gfx_fan.proofs.album.Album.take.Goals as goal

pub share-requires : goal.share-requires
share-requires g c = some_there _ _ c.requires.there.there

pub keep-requires-clause-few : goal.keep-requires-clause-few
keep-requires-clause-few g c = subst (λ p. length p ≤ 2 ^ 26) (ap (λ o. unwrap_or o []) (sym c.in_ok-pixels.ensures)) (few_bytes (bytes_of c.args.replayer.now) c.args.caption.shown c.requires.there)

pub returns-in_err-pixels-clause-front : goal.returns-in_err-pixels-clause-front
returns-in_err-pixels-clause-front g c = nothing_written (g.K.Sink.taken c.args.sink.now) (kept_lines c.args.self.now ++ line_of (bytes_of c.args.replayer.now) c.args.caption)

pub returns-in_err-keep-clause-front : goal.returns-in_err-keep-clause-front
returns-in_err-keep-clause-front g c = nothing_written (g.K.Sink.taken c.args.sink.now) (kept_lines c.args.self.now ++ line_of (bytes_of c.args.replayer.now) c.args.caption)

pub returns-then-not-is_full-clause-ok : goal.returns-then-not-is_full-clause-ok
returns-then-not-is_full-clause-ok g c =
    let lines = kept_line (bytes_of c.args.replayer.now) c.args.caption _ (kept_lines c.args.self.now) (kept_lines c.keep.new.self) (ap (λ o. unwrap_or o []) c.in_ok-pixels.ensures) c.in_ok-keep.ensures.lines in
    so_far_kept (g.K.Sink.taken c.args.sink.now) (kept_lines c.args.self.now ++ line_of (bytes_of c.args.replayer.now) c.args.caption) (kept_lines c.keep.new.self) lines

pub returns-then-not-is_full-clause-front : goal.returns-then-not-is_full-clause-front
returns-then-not-is_full-clause-front g c = nothing_written (g.K.Sink.taken c.args.sink.now) (kept_lines c.args.self.now ++ line_of (bytes_of c.args.replayer.now) c.args.caption)

pub returns-then-not-is_full-clause-small : goal.returns-then-not-is_full-clause-small
returns-then-not-is_full-clause-small g c = is_small c.keep.new.self c.in_ok-keep.ensures.held (sym c.is_full.ensures ∙ c.if-not-is_full.true)

pub returns-clause-ok : goal.returns-clause-ok
returns-clause-ok g c =
    let lines = kept_line (bytes_of c.args.replayer.now) c.args.caption _ (kept_lines c.args.self.now) (kept_lines c.keep.new.self) (ap (λ o. unwrap_or o []) c.in_ok-pixels.ensures) c.in_ok-keep.ensures.lines in
    on_ok_weaker c.turn.result (λ turned. subst (λ text. SoFar (g.K.Sink.taken c.args.sink.now) (g.K.Sink.taken c.turn.new.sink) text (kept_lines c.turn.new.self)) lines turned) c.turn.ensures.ok

pub returns-clause-front : goal.returns-clause-front
returns-clause-front g c =
    let lines = kept_line (bytes_of c.args.replayer.now) c.args.caption _ (kept_lines c.args.self.now) (kept_lines c.keep.new.self) (ap (λ o. unwrap_or o []) c.in_ok-pixels.ensures) c.in_ok-keep.ensures.lines in
    subst (AppendsPart (g.K.Sink.taken c.args.sink.now) (g.K.Sink.taken c.turn.new.sink)) lines c.turn.ensures.front
