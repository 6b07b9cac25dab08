use Rattle.std.proofs.Common.{◌≡◌, ℕ, List, arith, subst, ap}
use Rattle.gfx_io.specs.Memory.{listed_calls, sink_faults}
use Rattle.gfx_io.proofs.memory.MemSinkSink.write.Goals as goal

pub returns-then-is_err-clause-cause : goal.returns-then-is_err-clause-cause
returns-then-is_err-clause-cause c =
    let still : listed_calls c.self.inside.failing.items c.next_call_fails.new.calls ≡ listed_calls c.self.inside.failing.items c.self.inside.calls =
    subst (λ (f : List ℕ). listed_calls f c.next_call_fails.new.calls ≡ listed_calls f c.self.inside.calls) c.deref.ensures.value (c.next_call_fails.ensures.still c.if-next_call_fails.false) in
    let before = ap sink_faults c.self.view_is in
    let more = c.saturating_add-self-inside.ensures in
    record { later = omega (arith, still, before, more); still = tt; failed = omega (arith, still, before, more) }

pub returns-clause-cause : goal.returns-clause-cause
returns-clause-cause c =
    let still : listed_calls c.self.inside.failing.items c.next_call_fails.new.calls ≡ listed_calls c.self.inside.failing.items c.self.inside.calls =
    subst (λ (f : List ℕ). listed_calls f c.next_call_fails.new.calls ≡ listed_calls f c.self.inside.calls) c.deref.ensures.value (c.next_call_fails.ensures.still c.if-next_call_fails.false) in
    let before = ap sink_faults c.self.view_is in
    record { later = omega (arith, still, before); still = omega (arith, still, before); failed = tt }
