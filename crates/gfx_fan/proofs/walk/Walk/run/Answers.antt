use Rattle.std.proofs.Common.{[], Ok, ap, arith}
use Rattle.std.proofs.lemmas.Result.{err_from_is_err_and}
use Rattle.gfx_player.specs.declared.asked.Asked.TheVariants as asked
use Rattle.gfx_play.proofs.Showing.{end_misses}
use Rattle.gfx_fan.proofs.Rounds.{is_ready}
use Rattle.gfx_fan.proofs.walk.Walk.run.Goals as goal

pub groups-init : goal.groups-init
groups-init g c = record {
  place = c.requires.place;
  gathering = λ file w. ([], w);
  later_source = omega arith;
  later_sink = omega arith;
}

pub next_group-requires : goal.next_group-requires
next_group-requires g c =
    let (file, opened) = c.requires.gathering in
    let (shown, w) = c.groups.invariant.gathering file opened in
    (c.type_bounds.sync-R, is_ready c.groups.self.player c.groups.self.album shown _ _ _ _ w c.groups.invariant.place)

pub returns-in_err-ending-clause-told : goal.returns-in_err-ending-clause-told
returns-in_err-ending-clause-told g c file opened =
    let p = err_from_is_err_and c.from_residual.result c.from_residual.ensures.1 in
    let (shown, w) = c.groups.invariant.gathering file opened in
    rw (p.1, p.2) (c.in_err-ending.ensures.err shown _ _ w)

pub returns-in-Clean-clause-told : goal.returns-in-Clean-clause-told
returns-in-Clean-clause-told g c file opened =
    let (shown, w) = c.groups.invariant.gathering file opened in
    let (more, came) = c.in_ok-ending.ensures.ok shown _ _ w in
    let (was, middle, s, all) = rw c.in-Clean.is at came in
    c.end.ensures.told was more _ middle _ _ s all

pub returns-in-Clean-clause-misses : goal.returns-in-Clean-clause-misses
returns-in-Clean-clause-misses g c =
    let (file, opened) = c.requires.gathering in
    let (shown, w) = c.groups.invariant.gathering file opened in
    let (more, came) = c.in_ok-ending.ensures.ok shown _ _ w in
    let (was, middle, s, all) = rw c.in-Clean.is at came in
    end_misses asked.All c.next_group.new.self.album.screen.asked c.end.result s.asked_is c.end.ensures.kind

pub returns-in-Stopped-clause-told : goal.returns-in-Stopped-clause-told
returns-in-Stopped-clause-told g c file opened =
    let (shown, w) = c.groups.invariant.gathering file opened in
    let (more, came) = c.in_ok-ending.ensures.ok shown _ _ w in
    let (was, middle, s, stops) = rw c.in-Stopped.is at came in
    c.stop.ensures.told was more _ middle _ _ s stops

pub groups-preserved : goal.groups-preserved
groups-preserved g c =
    record {
      place = c.in_ok-ending.ensures.place (ap Ok c.in-Full.is);
      gathering = λ file opened.
          let (shown, w) = c.groups.invariant.gathering file opened in
          let (more, came) = c.in_ok-ending.ensures.ok shown _ _ w in
          (more, rw c.in-Full.is at came);
      later_source = omega (arith, c.groups.invariant.later_source, c.in_ok-ending.ensures.later.0);
      later_sink = omega (arith, c.groups.invariant.later_sink, c.in_ok-ending.ensures.later.1);
    }

pub groups-smaller : goal.groups-smaller
groups-smaller g c = c.in_ok-ending.ensures.fewer (ap Ok c.in-Full.is)
