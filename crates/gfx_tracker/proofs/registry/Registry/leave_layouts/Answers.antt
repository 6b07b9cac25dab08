use Rattle.std.proofs.Common.{ap}
use Rattle.gfx_model.specs.Views.{View}
use Rattle.gfx_swap.specs.Signals.{is_signalled}
use Rattle.gfx_swap.specs.Acquired.{is_acquired}
use Rattle.gfx_tracker.proofs.Registered.{registered_same}
use Rattle.gfx_tracker.proofs.registry.Registry.leave_layouts.Goals as goal

pub invariant_of-self : goal.invariant_of-self
invariant_of-self c =
    let r = c.args.self.now in
    record { kept = registered_same r.objects c.leave_layouts.new.objects r.signals r.images r.kept (λ x. ap (λ (v : View). v.live x) c.leave_layouts.ensures.layouts) }

pub returns : goal.returns
returns c =
    let r = c.args.self.now in
    ap (λ (v : View). record v { signalled = is_signalled r.signals; acquired = is_acquired r.images }) c.leave_layouts.ensures.layouts
