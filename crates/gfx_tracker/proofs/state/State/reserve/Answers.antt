use Rattle.std.proofs.Common.{ap}
use Rattle.gfx_model.specs.Views.{View}
use Rattle.gfx_commands.specs.Recordings.{buffers}
use Rattle.gfx_tracker.specs.Registry.{answers_of}
use Rattle.gfx_tracker.specs.Gathered.{gathered}
use Rattle.gfx_tracker.proofs.Gathered.{along_plain}
use Rattle.gfx_tracker.proofs.state.State.reserve.Goals as goal

pub invariant_of-self : goal.invariant_of-self
invariant_of-self c =
    let s = c.args.self.now in
    record { plain = along_plain (answers_of s.registry) (answers_of c.reserve.new.self) (buffers s.recordings) c.reserve.ensures.same s.plain }

pub returns-clause-same : goal.returns-clause-same
returns-clause-same c =
    let s = c.args.self.now in
    ap (λ (v : View). gathered v (buffers s.recordings) s.next_frame s.is_empty s.section) c.reserve.ensures.same
