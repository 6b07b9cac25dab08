use Rattle.std.proofs.Common.{ap, subst, ◌∙◌}
use Rattle.std.specs.Io.KnownBytes.{Appends}
use Rattle.gfx_io.specs.Pieces.{AppendsPart}
use Rattle.gfx_model.specs.Text.{hex_text}
use Rattle.gfx_frames.specs.Texts.{first_line, digest_line}
use Rattle.gfx_io.proofs.Appending.{whole_part}
use Rattle.gfx_frames.proofs.lines.write_digest.Goals as goal

pub returns-in_err-write_whole-clause-front : goal.returns-in_err-write_whole-clause-front
unfolding first_line
returns-in_err-write_whole-clause-front g c =
    subst (AppendsPart (g.K.Sink.taken c.args.sink.now) (g.K.Sink.taken c.write_whole.new.sink))
    (c.as_bytes.ensures.value ∙ c.in_ok-text.ensures ∙ ap (λ d. digest_line c.args.title.now c.args.picture.now (hex_text d)) c.digest_of-digest.ensures) c.in_err-write_whole.ensures.failed

pub returns-clause-ok : goal.returns-clause-ok
unfolding first_line
returns-clause-ok g c =
    subst (Appends (g.K.Sink.taken c.args.sink.now) (g.K.Sink.taken c.write_whole.new.sink))
    (c.as_bytes.ensures.value ∙ c.in_ok-text.ensures ∙ ap (λ d. digest_line c.args.title.now c.args.picture.now (hex_text d)) c.digest_of-digest.ensures) c.in_ok-write_whole.ensures.bytes

pub returns-clause-front : goal.returns-clause-front
unfolding first_line
returns-clause-front g c =
    whole_part (g.K.Sink.taken c.args.sink.now) (g.K.Sink.taken c.write_whole.new.sink) _ (returns-clause-ok g c)
