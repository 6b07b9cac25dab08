use Rattle.std.proofs.Common.{◌∷◌, ◌++◌, [], true, false, Ok, refl, sym, ap, ◌∙◌, arith}
use Rattle.std.proofs.lemmas.Result.{err_from_is_err_and}
use Rattle.gfx_replay.specs.Replayer.{bytes_of}
use Rattle.gfx_replay.specs.Shown.{frame_of}
use Rattle.gfx_player.proofs.Playing.{plays_going, room_for}
use Rattle.gfx_play.proofs.Lines.{listing_of}
use Rattle.gfx_play.proofs.Showing.{Counts, end_misses, next_fails, show_fails, shown_end, shown_last, shown_more, shown_none}
use Rattle.gfx_play.proofs.play.show_opened.Goals as goal

pub frames-init : goal.frames-init
frames-init g c =
    let p = c.args.player.now in
    let (file, plays) = c.requires in
    record {
      going = plays_going p [] file _ plays;
      showing = λ file plays. ([], shown_none c.args.asked c.args.pixels p _ file _ (g.K.Sink.taken c.args.sink.now) plays refl (ap (λ m. listing_of m c.args.pixels) c.minor.ensures) refl);
      later_source = omega arith;
      later_sink = omega arith;
    }

pub next_frame-requires : goal.next_frame-requires
next_frame-requires g c = record { going = c.frames.invariant.going }

pub returns-in_err-frame-clause-told : goal.returns-in_err-frame-clause-told
returns-in_err-frame-clause-told g c file plays =
    let p = err_from_is_err_and c.from_residual.result c.from_residual.ensures.1 in
    let (shown, w) = c.frames.invariant.showing file plays in
    rw (p.1, p.2) (next_fails c.args.asked c.args.pixels c.frames.player c.frames.screen shown _ _ _ _ _ _ w (c.in_err-frame.ensures.err shown _ w.plays))

pub show-requires-clause-there : goal.show-requires-clause-there
show-requires-clause-there g c =
    let (file, plays) = c.requires in
    let (shown, w) = c.frames.invariant.showing file plays in
    let next = rw c.in-Some.is at c.in_ok-frame.ensures.some in
    (next shown _ w.plays).there

pub show-requires-clause-room : goal.show-requires-clause-room
show-requires-clause-room g c =
    let (file, plays) = c.requires in
    let (shown, w) = c.frames.invariant.showing file plays in
    room_for c.args.asked c.frames.player shown _ _ c.frames.screen.count w.plays w.count

pub returns-in_err-show-clause-told : goal.returns-in_err-show-clause-told
returns-in_err-show-clause-told g c file plays =
    let p = err_from_is_err_and c.from_residual-in_err-show.result c.from_residual-in_err-show.ensures.1 in
    let (shown, w) = c.frames.invariant.showing file plays in
    let next = rw c.in-Some.is at c.in_ok-frame.ensures.some in
    rw (p.1, p.2)
    (show_fails c.args.asked c.args.pixels c.frames.player c.next_frame.new.self c.frames.screen shown c.in-Some.frame _ _ _ _ _ _ _ w (next shown _ w.plays) c.next_frame.ensures.minor
    c.in_err-show.ensures.err c.in_err-show.ensures.front)

pub frames-preserved : goal.frames-preserved
frames-preserved g c =
    let next = rw c.in-Some.is at c.in_ok-frame.ensures.some in
    let fewer = rw c.in-Some.is at c.in_ok-frame.ensures.fewer in
    let did = c.in_ok-show.ensures in
    let counts : Counts c.frames.screen c.show.new.self c.next_frame.new.self c.in-Some.frame false = record { asked = did.asked; listing = did.listing; count = did.count; last = sym c.if-branch.false ∙ did.last } in
    record {
      going = fewer.0;
      showing = λ file plays. let (shown, w) = c.frames.invariant.showing file plays in (
        shown ++ frame_of (bytes_of c.next_frame.new.self.replayer) c.in-Some.frame ∷ [],
        shown_more c.args.asked c.args.pixels c.frames.player c.next_frame.new.self c.frames.screen c.show.new.self shown c.in-Some.frame _ _ _ _ _ _ _ w (next shown _ w.plays) c.next_frame.ensures.minor counts did.ok,
      );
      later_source = omega (arith, c.frames.invariant.later_source, c.in_ok-frame.ensures.later);
      later_sink = omega (arith, c.frames.invariant.later_sink, did.later);
    }

pub returns-then-branch-clause-told : goal.returns-then-branch-clause-told
returns-then-branch-clause-told g c file plays =
    let (shown, w) = c.frames.invariant.showing file plays in
    let next = rw c.in-Some.is at c.in_ok-frame.ensures.some in
    let did = c.in_ok-show.ensures in
    let counts : Counts c.frames.screen c.show.new.self c.next_frame.new.self c.in-Some.frame true = record { asked = did.asked; listing = did.listing; count = did.count; last = sym c.if-branch.true ∙ did.last } in
    let all = shown_more c.args.asked c.args.pixels c.frames.player c.next_frame.new.self c.frames.screen c.show.new.self shown c.in-Some.frame _ _ _ _ _ _ _ w (next shown _ w.plays) c.next_frame.ensures.minor counts did.ok in
    shown_last c.args.asked c.args.pixels c.next_frame.new.self c.show.new.self shown (frame_of (bytes_of c.next_frame.new.self.replayer) c.in-Some.frame) c.finish.result _ _ _ _ _ w.last all (next shown _ w.plays).behind
    c.finish.ensures.ok c.finish.ensures.front c.finish.ensures.err

pub returns-clause-told : goal.returns-clause-told
returns-clause-told g c file plays =
    let (shown, w) = c.frames.invariant.showing file plays in
    shown_end c.args.asked c.args.pixels c.frames.player c.next_frame.new.self c.frames.screen shown c.end.result _ _ _ _ _ _ w (c.in_ok-frame.ensures.none (ap Ok c.in_default.is) shown _ w.plays)
    c.end.ensures.ok (λ first last is. let x = c.end.ensures.without first last is in (ap (λ s. g.K.Sink.taken s) x.0, x.1, x.2)) c.end.ensures.front c.end.ensures.err

pub returns-clause-misses : goal.returns-clause-misses
returns-clause-misses g c =
    let (file, plays) = c.requires in
    let (shown, w) = c.frames.invariant.showing file plays in
    end_misses c.args.asked c.frames.screen.asked c.end.result w.asked c.end.ensures.err
