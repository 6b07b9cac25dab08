use Rattle.std.proofs.Common.{rules, ◌≡◌, [], ◌∷◌, ◌++◌, length, ap, ◌∙◌, arith}
use Rattle.gfx_seats.specs.declared.stage.Stage.TheVariants.{Idle}
use Rattle.gfx_seats.specs.Seat.{hand, desk_of}
use Rattle.gfx_seats.specs.Desk.{desk_id}
use Rattle.gfx_callers.specs.Caller.{CallsAt}
use Rattle.gfx_callers.proofs.Moving.{nothing, one_more, last, others, moved, fewer}
use Rattle.gfx_callers.proofs.opening.passes_of.Goals as goal

pub loop-caller-init : goal.loop-caller-init
loop-caller-init c = record {
  callers = c.requires;
  capture = nothing (λ p. desk_of p ≡ desk_id c.args.capture.now.desk) _ c.new-passes.ensures.items;
  idle = nothing (λ p. (hand p).stage ≡ Idle) _ c.new-passes.ensures.items;
  count = let none = ap length c.new-passes.ensures.items in omega arith;
}

pub loop-caller-preserved : goal.loop-caller-preserved
loop-caller-preserved c =
    let i = c.loop-caller.invariant in
    let items : c.push.new.self.items ≡ c.loop-caller.passes.items ++ c.into_pass.result ∷ [] = search rules in
    let at = last (λ d. CallsAt d c.args.capture.now) _ _ _ _ c.pop.ensures.items c.in-Some.is i.callers in record {
      callers = others (λ d. CallsAt d c.args.capture.now) _ _ _ _ c.pop.ensures.items c.in-Some.is i.callers;
      capture = one_more (λ p. desk_of p ≡ desk_id c.args.capture.now.desk) _ _ _ items i.capture (ap desk_of c.into_pass.ensures.pass ∙ at);
      idle = one_more (λ p. (hand p).stage ≡ Idle) _ _ _ items i.idle c.into_pass.ensures.idle;
      count = moved _ _ _ _ _ _ _ _ c.pop.ensures.items c.in-Some.is items i.count;
    }

pub loop-caller-smaller : goal.loop-caller-smaller
loop-caller-smaller c = fewer _ _ _ _ c.pop.ensures.items c.in-Some.is
