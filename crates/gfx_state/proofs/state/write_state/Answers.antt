use Rattle.std.proofs.Common.{subst}
use Rattle.std.specs.Prelude.{flat_map, OnOk, OnErr}
use Rattle.std.specs.Io.KnownBytes.{Appends}
use Rattle.gfx_io.specs.Pieces.{AppendsPart}
use Rattle.gfx_model.specs.Spelling.{encoding}
use Rattle.gfx_tracker.specs.Tracker.{answers}
use Rattle.gfx_state.proofs.Standing.{commands_theirs, all_stands}
use Rattle.gfx_state.proofs.state.write_state.Goals as goal

pub returns-clause-ok : goal.returns-clause-ok
returns-clause-ok g c = λ h stands stored.
    subst (λ es. OnOk c.write_some.result (Appends (g.K.Sink.taken c.args.sink.now) (g.K.Sink.taken c.write_some.new.sink) (flat_map (encoding 1 0) es)))
    (all_stands (answers c.args.tracker.now) h c.args.frame (commands_theirs c.args.tracker.now) stands) (c.write_some.ensures.ok h stands stored)

pub returns-clause-err : goal.returns-clause-err
returns-clause-err g c = λ h stands stored.
    subst (λ es. OnErr c.write_some.result (AppendsPart (g.K.Sink.taken c.args.sink.now) (g.K.Sink.taken c.write_some.new.sink) (flat_map (encoding 1 0) es)))
    (all_stands (answers c.args.tracker.now) h c.args.frame (commands_theirs c.args.tracker.now) stands) (c.write_some.ensures.err h stands stored)
