use Rattle.std.proofs.Common.{◌<◌, [], ◌∷◌, length, length-append, Ok, Err, None, refl, sym, ap, subst, ◌∙◌, arith}
use Rattle.gfx_decode.specs.Reachable.{IsBehind, blocks_ahead}
use Rattle.gfx_decode.proofs.Steps.{framing_stops}
use Rattle.gfx_fan.specs.Groups.{framed_at}
use Rattle.gfx_fan.proofs.Grouping.{framed_fewer, full_some, gives_at, is_full, limited_more, limited_none, reading_more, reading_none, some_none, some_then}
use Rattle.gfx_fan.proofs.group.Group.fill.Goals as goal

pub reading-init : goal.reading-init
reading-init g c =
    let m = c.args.player.now.minor in
    let left = g.S.Source.left c.args.source.now in
    record {
      going = c.requires.going;
      kept = record { replayer = refl; first = refl; minor = refl };
      reading = λ at place. reading_none m at c.clear.new.self c.args.player.now.decoder left c.clear.ensures.bytes c.clear.ensures.places c.clear.ensures.spots place;
      limited = limited_none c.clear.new.self c.clear.ensures.bytes c.clear.ensures.places;
      some = some_none left;
      fewer = omega (arith, ap length c.clear.ensures.places);
      later = omega arith;
    }

pub next_framed-requires : goal.next_framed-requires
next_framed-requires g c = record { going = c.reading.invariant.going }

pub returns-in_err-keep-in-Ok-Some-clause-some : goal.returns-in_err-keep-in-Ok-Some-clause-some
returns-in_err-keep-in-Ok-Some-clause-some g c = some_then _ _ _ c.reading.invariant.some c.in-Ok-Some.ensures.reads

pub reading-preserved : goal.reading-preserved
reading-preserved g c =
    let m = c.args.player.now.minor in
    let inv = c.reading.invariant in
    let block = rw c.in-Ok-Some.field-0-is at c.in-Ok-Some.ensures.block in
    let few = rw c.in-Ok-Some.field-0-is at c.in-Ok-Some.ensures.few in
    let bytes = rw c.in-Ok-Some.field-0-is at c.in-Ok-Some.ensures.bytes in
    let after = rw c.in-Ok-Some.field-0-is at c.in-Ok-Some.ensures.after in
    let fewer = framed_fewer c.reading.player.decoder c.in-Ok-Some.block inv.going block few in
    let kept = c.in-Ok-Some.ensures.kept in
    record {
      going = subst (IsBehind 0) (sym after) fewer.0;
      kept = record { replayer = kept.replayer ∙ inv.kept.replayer; first = kept.first ∙ inv.kept.first; minor = kept.minor ∙ inv.kept.minor };
      reading = λ at place.
          reading_more m at c.reading.self c.keep.new.self c.in-Ok-Some.block c.reading.player.decoder c.next_framed.new.self.decoder _ _ _ (inv.reading at place) block few after bytes c.in_ok-keep-in-Ok-Some.ensures.bytes
          c.in_ok-keep-in-Ok-Some.ensures.places c.in_ok-keep-in-Ok-Some.ensures.spots;
      limited = limited_more c.reading.self c.keep.new.self c.reading.player.decoder c.in-Ok-Some.block inv.limited block (sym c.is_full.ensures ∙ c.reading-test.true) c.in_ok-keep-in-Ok-Some.ensures.bytes c.in_ok-keep-in-Ok-Some.ensures.places;
      some = some_then _ _ _ inv.some c.in-Ok-Some.ensures.reads;
      fewer = omega (arith, inv.fewer, subst (λ s. blocks_ahead s < blocks_ahead c.reading.player.decoder) (sym after) fewer.1, ap length c.in_ok-keep-in-Ok-Some.ensures.places, length-append c.reading.self.places.items (framed_at (length c.reading.self.bytes.items) c.in-Ok-Some.block ∷ []));
      later = omega (arith, inv.later, c.in-Ok-Some.ensures.later);
    }

pub returns-in-Ok-None-clause-read : goal.returns-in-Ok-None-clause-read
returns-in-Ok-None-clause-read g c at place =
    let r = c.reading.invariant.reading at place in
    let none = c.in-Ok-None.ensures.none (ap Ok c.in-Ok-None.field-0-is) in
    record {
      end = r.end;
      middle = g.S.Source.left c.reading.source;
      blocks = r.blocks;
      took = r.took;
      ends = (gives_at c.args.player.now.minor c.reading.player.decoder r.end (Ok None) _ _ r.place none, c.in-Ok-None.ensures.end (ap Ok c.in-Ok-None.field-0-is));
    }

pub returns-in-Ok-None-clause-some : goal.returns-in-Ok-None-clause-some
returns-in-Ok-None-clause-some g c = some_then _ _ _ c.reading.invariant.some c.in-Ok-None.ensures.reads

pub returns-in-Err-clause-read : goal.returns-in-Err-clause-read
returns-in-Err-clause-read g c at place =
    let r = c.reading.invariant.reading at place in
    record {
      end = r.end;
      middle = g.S.Source.left c.reading.source;
      blocks = r.blocks;
      took = r.took;
      ends = (gives_at c.args.player.now.minor c.reading.player.decoder r.end (Err c.in-Err.why) _ _ r.place c.in-Err.ensures.err, framing_stops c.args.player.now.minor r.end _ _ c.in-Err.why (c.in-Err.ensures.framing c.args.player.now.minor r.end r.place));
    }

pub returns-in-Err-clause-some : goal.returns-in-Err-clause-some
returns-in-Err-clause-some g c = some_then _ _ _ c.reading.invariant.some c.in-Err.ensures.reads

pub returns-clause-read : goal.returns-clause-read
returns-clause-read g c at place =
    let r = c.reading.invariant.reading at place in
    record { end = r.end; middle = g.S.Source.left c.reading.source; blocks = r.blocks; took = r.took; ends = (r.place, refl) }

pub returns-clause-full : goal.returns-clause-full
returns-clause-full g c is = is_full c.reading.self c.reading.invariant.limited (sym c.is_full.ensures ∙ c.reading-test.false)

pub returns-clause-fewer : goal.returns-clause-fewer
returns-clause-fewer g c is =
    let inv = c.reading.invariant in
    omega (arith, inv.fewer, full_some c.reading.self (is_full c.reading.self inv.limited (sym c.is_full.ensures ∙ c.reading-test.false)))
