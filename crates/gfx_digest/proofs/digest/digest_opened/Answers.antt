use Rattle.std.proofs.Common.{◌∷◌, ◌++◌, [], true, false, Ok, sym, ap, ◌∙◌, arith}
use Rattle.std.proofs.lemmas.Result.{err_from_is_err_and}
use Rattle.gfx_replay.specs.Replayer.{bytes_of}
use Rattle.gfx_replay.specs.Shown.{frame_of}
use Rattle.gfx_player.proofs.Playing.{plays_going, room_for}
use Rattle.gfx_digest.proofs.Hashing.{Counts, hashed_end, hashed_last, hashed_next, hashed_none, hashing_stops}
use Rattle.gfx_digest.proofs.digest.digest_opened.Goals as goal

pub frames-init : goal.frames-init
frames-init g c =
    let p = c.args.player.now in
    let (file, plays) = c.requires.plays in
    record {
      going = plays_going p [] file _ plays;
      hashing = λ file plays. ([], hashed_none c.args.asked p _ file _ plays c.new-hasher.ensures.asked c.new-hasher.ensures.count c.new-hasher.ensures.holds);
      later = omega arith;
    }

pub next_frame-requires : goal.next_frame-requires
next_frame-requires g c = record { going = c.frames.invariant.going }

pub returns-in_err-frame-clause-told : goal.returns-in_err-frame-clause-told
returns-in_err-frame-clause-told g c file plays =
    let p = err_from_is_err_and c.from_residual.result c.from_residual.ensures.1 in
    let (shown, w) = c.frames.invariant.hashing file plays in
    rw (p.1, p.2) (hashing_stops c.args.asked shown _ _ _ w.last (c.in_err-frame.ensures.err shown _ w.plays))

pub take-requires-clause-room : goal.take-requires-clause-room
take-requires-clause-room g c =
    let (file, plays) = c.requires.plays in
    let (shown, w) = c.frames.invariant.hashing file plays in
    room_for c.args.asked c.frames.player shown _ _ c.frames.hasher.count w.plays w.count

pub frames-preserved : goal.frames-preserved
frames-preserved g c =
    let next = rw c.in-Some.is at c.in_ok-frame.ensures.some in
    let fewer = rw c.in-Some.is at c.in_ok-frame.ensures.fewer in
    let did = c.take.ensures in
    let counts : Counts c.frames.hasher c.take.new.self c.next_frame.new.self c.in-Some.frame false = record { asked = did.asked; count = did.count; last = sym c.if-take.false ∙ did.last; holds = did.holds } in
    record {
      going = fewer.0;
      hashing = λ file plays. let (shown, w) = c.frames.invariant.hashing file plays in (
        shown ++ frame_of (bytes_of c.next_frame.new.self.replayer) c.in-Some.frame ∷ [],
        hashed_next c.args.asked c.frames.player c.next_frame.new.self c.frames.hasher c.take.new.self shown c.in-Some.frame _ _ _ _ w (next shown _ w.plays) counts,
      );
      later = omega (arith, c.frames.invariant.later, c.in_ok-frame.ensures.later);
    }

pub returns-then-take-clause-told : goal.returns-then-take-clause-told
returns-then-take-clause-told g c file plays =
    let (shown, w) = c.frames.invariant.hashing file plays in
    let next = rw c.in-Some.is at c.in_ok-frame.ensures.some in
    let did = c.take.ensures in
    let counts : Counts c.frames.hasher c.take.new.self c.next_frame.new.self c.in-Some.frame true = record { asked = did.asked; count = did.count; last = sym c.if-take.true ∙ did.last; holds = did.holds } in
    let all = hashed_next c.args.asked c.frames.player c.next_frame.new.self c.frames.hasher c.take.new.self shown c.in-Some.frame _ _ _ _ w (next shown _ w.plays) counts in
    hashed_last c.args.asked c.next_frame.new.self c.take.new.self shown (frame_of (bytes_of c.next_frame.new.self.replayer) c.in-Some.frame) c.finish.result _ _ w.last all (next shown _ w.plays).behind
    c.finish.ensures.digest c.finish.ensures.frames

pub returns-clause-told : goal.returns-clause-told
returns-clause-told g c file plays =
    let (shown, w) = c.frames.invariant.hashing file plays in
    hashed_end c.args.asked c.next_frame.new.self shown c.no_such_frame.result _ _ w.last (c.in_ok-frame.ensures.none (ap Ok c.in_default.is) shown _ w.plays) c.no_such_frame.ensures
