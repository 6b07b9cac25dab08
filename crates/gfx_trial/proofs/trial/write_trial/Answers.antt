use Rattle.std.proofs.Common.{ap, subst, ◌∙◌}
use Rattle.std.specs.Io.KnownBytes.{Appends}
use Rattle.gfx_io.specs.Pieces.{AppendsPart}
use Rattle.gfx_io.proofs.Appending.{whole_part}
use Rattle.gfx_trial.specs.Text.{lines_on, trial_text}
use Rattle.gfx_trial.proofs.trial.write_trial.Goals as goal

pub returns-in_err-write_whole-clause-front : goal.returns-in_err-write_whole-clause-front
unfolding trial_text
returns-in_err-write_whole-clause-front g c =
    subst (AppendsPart (g.K.Sink.taken c.args.sink.now) (g.K.Sink.taken c.write_whole.new.sink))
    (c.as_bytes.ensures.value ∙ c.in_ok-text.ensures ∙ ap lines_on c.in_ok-trial.ensures) c.in_err-write_whole.ensures.failed

pub returns-clause-ok : goal.returns-clause-ok
unfolding trial_text
returns-clause-ok g c =
    subst (Appends (g.K.Sink.taken c.args.sink.now) (g.K.Sink.taken c.write_whole.new.sink))
    (c.as_bytes.ensures.value ∙ c.in_ok-text.ensures ∙ ap lines_on c.in_ok-trial.ensures) c.in_ok-write_whole.ensures.bytes

pub returns-clause-front : goal.returns-clause-front
returns-clause-front g c = whole_part (g.K.Sink.taken c.args.sink.now) (g.K.Sink.taken c.write_whole.new.sink) _ (returns-clause-ok g c)
