use Rattle.gfx_seats.specs.Seat.{hand}
use Rattle.gfx_capture.proofs.Places.{keeps, tells}
use Rattle.gfx_capture.proofs.NewIds.{never_taken}
use Rattle.gfx_capture.proofs.capture.Capture.batch.Goals as goal

pub returns-clause-keeps : goal.returns-clause-keeps
returns-clause-keeps g c =
    keeps (hand c.args.pass.now) _ _ _ c.args.buffer.now.events c.turn-turn.ensures.seat c.append-answer.ensures.appended c.leave.ensures.seat c.turn-turn.ensures.before
    c.turn-turn.ensures.known

pub returns-clause-tells : goal.returns-clause-tells
returns-clause-tells g c =
    tells (hand c.args.pass.now) _ _ _ c.args.buffer.now.events c.turn-turn.ensures.seat c.append-answer.ensures.appended c.leave.ensures.seat
    c.args.buffer.now.minor c.requires.buffer c.turn-turn.ensures.known _ c.append-answer.ensures.grown

pub returns-clause-new_ids : goal.returns-clause-new_ids
returns-clause-new_ids g c new =
    let h = hand c.args.pass.now in let events = c.args.buffer.now.events in let pass = c.leave.new.seat in
    let kept = keeps h _ _ (hand pass) events c.turn-turn.ensures.seat c.append-answer.ensures.appended c.leave.ensures.seat c.turn-turn.ensures.before c.turn-turn.ensures.known in
    never_taken h (hand pass) events c.requires.drew new pass.alone kept.drawn c.append-answer.result
    (tells h _ _ _ events c.turn-turn.ensures.seat c.append-answer.ensures.appended c.leave.ensures.seat
    c.args.buffer.now.minor c.requires.buffer c.turn-turn.ensures.known _ c.append-answer.ensures.grown)
