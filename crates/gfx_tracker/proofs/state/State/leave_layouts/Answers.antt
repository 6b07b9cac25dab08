use Rattle.std.proofs.Common.{ap, sym, subst}
use Rattle.gfx_model.specs.Views.{View}
use Rattle.gfx_commands.specs.Recordings.{buffers}
use Rattle.gfx_tracker.specs.Gathered.{gathered, IsPlain}
use Rattle.gfx_tracker.proofs.state.State.leave_layouts.Goals as goal

pub invariant_of-self : goal.invariant_of-self
invariant_of-self c =
    let s = c.args.self.now in
    record { plain = subst (λ live. IsPlain live (buffers s.recordings)) (sym (ap (λ (v : View). v.live) c.leave_layouts.ensures)) s.plain }

pub returns : goal.returns
returns c =
    let s = c.args.self.now in
    ap (λ (v : View). gathered v (buffers s.recordings) s.next_frame s.is_empty s.section) c.leave_layouts.ensures
