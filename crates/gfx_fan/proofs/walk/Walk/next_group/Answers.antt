use Rattle.std.proofs.Common.{◌<◌, [], Ok, refl, sym, ap, subst, arith}
use Rattle.std.proofs.lemmas.Result.{err_from_is_err_and}
use Rattle.gfx_decode.specs.Reachable.{blocks_ahead}
use Rattle.gfx_fan.specs.declared.group.Ending.TheVariants.{Full}
use Rattle.gfx_fan.proofs.Grouping.{kept_inside, kept_paired}
use Rattle.gfx_fan.proofs.Rounds.{came_to, gathered_held, group_stops, has_version, no_group, ok_same, still_replaying, walks_on}
use Rattle.gfx_fan.proofs.walk.Walk.next_group.Goals as goal

pub returns-in_err-ending-clause-err : goal.returns-in_err-ending-clause-err
returns-in_err-ending-clause-err g c =
    let p = err_from_is_err_and c.from_residual.result c.from_residual.ensures.1 in
    let was = c.args.self.now in
    rw (p.1, p.2) (λ shown file before w. no_group was.player was.album shown file _ _ before _ w c.in_err-ending.ensures.some)

pub feed_group-requires-clause-version : goal.feed_group-requires-clause-version
feed_group-requires-clause-version g c κs outlives = has_version c.args.self.now.player c.fill.new.player c.requires.place c.in_ok-ending.ensures.kept

pub feed_group-requires-clause-inside : goal.feed_group-requires-clause-inside
feed_group-requires-clause-inside g c κs outlives =
    let here = c.requires.place in
    let read = c.in_ok-ending.ensures.read here.at here.place in
    kept_inside here.at [] _ _ _ _ read.end read.blocks refl

pub feed_group-requires-clause-spots : goal.feed_group-requires-clause-spots
feed_group-requires-clause-spots g c κs outlives =
    let here = c.requires.place in
    let read = c.in_ok-ending.ensures.read here.at here.place in
    kept_paired here.at 0 _ _ _ read.end read.blocks

pub feed_group-requires-clause-replaying : goal.feed_group-requires-clause-replaying
feed_group-requires-clause-replaying g c κs outlives = still_replaying c.args.self.now.player c.fill.new.player c.requires.replaying c.in_ok-ending.ensures.kept

pub feed_group-requires-clause-room : goal.feed_group-requires-clause-room
feed_group-requires-clause-room g c κs outlives = omega (arith, c.requires.room, c.in_ok-ending.ensures.limited.few)

pub returns-in_err-feed_group-clause-err : goal.returns-in_err-feed_group-clause-err
returns-in_err-feed_group-clause-err g c =
    let p = err_from_is_err_and c.from_residual-in_err-feed_group.result c.from_residual-in_err-feed_group.ensures.1 in
    let was = c.args.self.now in
    let here = c.requires.place in
    let filled = c.in_ok-ending.ensures in
    let read = filled.read here.at here.place in
    rw (p.1, p.2)
    (λ shown file before w.
    let s = gathered_held was.player c.fill.new.player was.album shown here.at c.fill.new.self.bytes.items file _ read.middle before _ w here.place filled.kept read.took in
    group_stops was.player.minor read.end c.in_ok-ending.ending c.fill.new.player.decoder _ file read.middle _ before _ read.ends
    (c.in_err-feed_group.ensures.err here.at read.end read.blocks file read.middle before (shown, s)))

pub returns-clause-ok : goal.returns-clause-ok
returns-clause-ok g c shown file before w =
    let was = c.args.self.now in
    let here = c.requires.place in
    let filled = c.in_ok-ending.ensures in
    let read = filled.read here.at here.place in
    let fed = c.in_ok-feed_group.ensures in
    let s = gathered_held was.player c.fill.new.player was.album shown here.at c.fill.new.self.bytes.items file _ read.middle before _ w here.place filled.kept read.took in
    let (more, t) = fed.ok here.at read.end read.blocks file read.middle before (shown, s) in
    (more, came_to was.player.minor c.fill.new.player c.feed_group.new.player c.feed_group.new.album read.end c.in_ok-ending.ending more file read.middle _ before _ filled.kept.minor fed.read t read.ends)

pub returns-clause-place : goal.returns-clause-place
returns-clause-place g c is =
    let here = c.requires.place in
    let filled = c.in_ok-ending.ensures in
    let read = filled.read here.at here.place in
    walks_on c.args.self.now.player c.fill.new.player c.feed_group.new.player read.end c.in_ok-ending.ending read.middle _ here filled.kept.minor c.in_ok-feed_group.ensures.read (ok_same c.in_ok-ending.ending Full _ refl is) read.ends

pub returns-clause-fewer : goal.returns-clause-fewer
returns-clause-fewer g c is =
    subst (λ t. blocks_ahead t < blocks_ahead c.args.self.now.player.decoder) (sym c.in_ok-feed_group.ensures.read.decoder) (c.in_ok-ending.ensures.fewer (ap Ok (ok_same c.in_ok-ending.ending Full _ refl is)))
