use Rattle.std.proofs.Common.{◌≤◌, Ok, sym, ap, subst, ◌∙◌, arith}
use Rattle.std.proofs.lemmas.Result.{err_from_is_err_and}
use Rattle.gfx_decode.specs.Decoding.{item_of}
use Rattle.gfx_decode.specs.Reachable.{IsBehind, blocks_ahead}
use Rattle.gfx_player.proofs.Walking.{has_all, plays_next, plays_on, refused_stops, replayed_alike, stops_shown}
use Rattle.gfx_player.proofs.player.Player.next_frame.Goals as goal

pub returns-in_err-raw-clause-err : goal.returns-in_err-raw-clause-err
returns-in_err-raw-clause-err g c =
    let p = err_from_is_err_and c.from_residual.result c.from_residual.ensures.1 in
    rw (p.1, p.2) (λ shown file w.
    let k = c.reading.invariant.plays shown file w in
    stops_shown k.fed _ file _ c.reading.self shown k.replayed k.shows (c.in_err-raw.ensures.err k.fed file k.replayed.replays.stands.valid k.read))

pub returns-in_err-frame-clause-err : goal.returns-in_err-frame-clause-err
returns-in_err-frame-clause-err g c =
    let p = err_from_is_err_and c.from_residual-in_err-frame.result c.from_residual-in_err-frame.ensures.1 in
    let some = rw c.in-Some.is at c.in_ok-raw.ensures.some in
    rw (p.1, p.2) (λ shown file w.
    let k = c.reading.invariant.plays shown file w in
    let done = replayed_alike c.reading.self c.next.new.self k.fed c.next.ensures.kept k.replayed in
    stops_shown k.fed _ file _ c.next.new.self shown done k.shows
    (refused_stops c.next.new.self k.fed (item_of c.in-Some.raw) _ file _ done.replays.stands.valid (some k.fed file k.read) c.in_err-frame.ensures.kind (c.in_err-frame.ensures.err k.fed done)))

pub returns-in-Some-2-clause-some : goal.returns-in-Some-2-clause-some
returns-in-Some-2-clause-some g c shown file w =
    let k = c.reading.invariant.plays shown file w in
    let done = replayed_alike c.reading.self c.next.new.self k.fed c.next.ensures.kept k.replayed in
    let some = rw c.in-Some.is at c.in_ok-raw.ensures.some in
    let few = rw c.in-Some.is at c.in_ok-raw.ensures.few in
    let took = rw c.in-Some-2.is at c.in_ok-frame.ensures.ok in
    plays_next c.reading.self c.next.new.self c.step.new.self shown file _ _ (item_of c.in-Some.raw) c.in-Some-2.frame k (some k.fed file k.read) c.step.ensures.same (few k.fed file k.read) (took k.fed done)

pub reading-preserved : goal.reading-preserved
reading-preserved g c =
    let some = rw c.in-Some.is at c.in_ok-raw.ensures.some in
    let few = rw c.in-Some.is at c.in_ok-raw.ensures.few in
    let fewer = rw c.in-Some.is at c.in_ok-raw.ensures.fewer in
    let took = rw c.in_default-2.is at c.in_ok-frame.ensures.ok in
    let kept = c.reading.invariant in
    record {
      going = subst (IsBehind 0) (sym c.step.ensures.same.decoder) fewer.0;
      plays = λ shown file w.
          let k = kept.plays shown file w in
          let done = replayed_alike c.reading.self c.next.new.self k.fed c.next.ensures.kept k.replayed in
          plays_on c.reading.self c.next.new.self c.step.new.self shown file _ _ (item_of c.in-Some.raw) k (some k.fed file k.read) c.step.ensures.same (few k.fed file k.read) (took k.fed done);
      minor = c.step.ensures.same.minor ∙ c.next.ensures.kept.minor ∙ kept.minor;
      fewer = subst (λ s. blocks_ahead s ≤ blocks_ahead c.args.self.now.decoder) (sym c.step.ensures.same.decoder) (omega (arith, kept.fewer, fewer.1));
      later = omega (arith, kept.later, c.in_ok-raw.ensures.later);
    }

pub returns-clause-none : goal.returns-clause-none
returns-clause-none g c is shown file w =
    let k = c.reading.invariant.plays shown file w in
    has_all c.reading.self c.next.new.self shown file _ _ k c.next.ensures.kept (c.in_ok-raw.ensures.none (ap Ok c.in_default.is) k.fed file k.replayed.replays.stands.valid k.read)
