use Rattle.std.proofs.Common.{rules, ◌≡◌, [], ◌∷◌, ◌++◌, length, ap, ◌∙◌, arith}
use Rattle.gfx_seats.specs.Seat.{hand, desk_of}
use Rattle.gfx_seats.specs.Desk.{desk_id}
use Rattle.gfx_callers.specs.Caller.{CallsAt, IsReady}
use Rattle.gfx_callers.proofs.Moving.{nothing, one_more, last, others, moved, fewer}
use Rattle.gfx_callers.proofs.opening.callers_of.Goals as goal

pub loop-pass-init : goal.loop-pass-init
loop-pass-init c = record {
  capture = c.requires.capture;
  ready = c.requires.ready;
  callers = nothing (λ d. CallsAt d c.args.capture.now) _ c.new-callers.ensures.items;
  count = let none = ap length c.new-callers.ensures.items in omega arith;
}

pub new-requires : goal.new-requires
new-requires c = last (λ p. IsReady (hand p)) _ _ _ _ c.pop.ensures.items c.in-Some.is c.loop-pass.invariant.ready

pub loop-pass-preserved : goal.loop-pass-preserved
loop-pass-preserved c =
    let i = c.loop-pass.invariant in
    let items : c.push.new.self.items ≡ c.loop-pass.callers.items ++ c.new.result ∷ [] = search rules in
    let at = last (λ p. desk_of p ≡ desk_id c.args.capture.now.desk) _ _ _ _ c.pop.ensures.items c.in-Some.is i.capture in record {
      capture = others (λ p. desk_of p ≡ desk_id c.args.capture.now.desk) _ _ _ _ c.pop.ensures.items c.in-Some.is i.capture;
      ready = others (λ p. IsReady (hand p)) _ _ _ _ c.pop.ensures.items c.in-Some.is i.ready;
      callers = one_more (λ d. CallsAt d c.args.capture.now) _ _ _ items i.callers (ap desk_of c.new.ensures ∙ at);
      count = moved _ _ _ _ _ _ _ _ c.pop.ensures.items c.in-Some.is items i.count;
    }

pub loop-pass-smaller : goal.loop-pass-smaller
loop-pass-smaller c = fewer _ _ _ _ c.pop.ensures.items c.in-Some.is
