use Rattle.std.proofs.Common.{◌≡◌, ◌<◌, length, subst, arith}
use Rattle.std.proofs.lemmas.Result.{err_from_is_err_and}
use Rattle.gfx_model.specs.Blocks.{next_position}
use Rattle.gfx_decode.specs.Stage.{At}
use Rattle.gfx_fan.specs.Groups.{Remains, held}
use Rattle.gfx_fan.proofs.Feeding.{alike_none, alike_then}
use Rattle.gfx_fan.proofs.Grouping.{next_block, picked_as, remains_all, remains_next, says_at, told_held}
use Rattle.gfx_fan.proofs.feed.feed_blocks.Goals as goal

pub feeding-init : goal.feeding-init
feeding-init g c = record {
  read = alike_none c.args.player.now;
  replaying = c.requires.replaying;
  ready = c.requires.ready;
  count = omega arith;
  later = omega arith;
  remains = λ at end blocks file middle before gathered. remains_all c.args.player.now.minor c.args.player.now c.args.album.now c.args.group.now at end file middle before _ blocks gathered;
}

pub feed_one-requires-clause-room : goal.feed_one-requires-clause-room
feed_one-requires-clause-room g c = omega (arith, c.feeding.invariant.count, c.feeding-test.true, c.requires.room)

pub returns-in_err-feed_one-clause-read : goal.returns-in_err-feed_one-clause-read
returns-in_err-feed_one-clause-read g c = alike_then c.args.player.now c.feeding.player c.feed_one.new.player c.feeding.invariant.read c.in_err-feed_one.ensures.read

pub returns-in_err-feed_one-clause-err : goal.returns-in_err-feed_one-clause-err
returns-in_err-feed_one-clause-err g c =
    let p = err_from_is_err_and c.from_residual.result c.from_residual.ensures.1 in
    let m = c.args.player.now.minor in
    let group = c.args.group.now in
    let i = c.feeding.index in
    let below : i < length group.spots.items = omega (arith, c.feeding-test.true, c.requires.few) in
    rw (p.1, p.2)
    (λ at end blocks file middle before gathered.
    let r = c.feeding.invariant.remains at end blocks file middle before gathered in
    let n = next_block m c.feeding.player c.feeding.player c.feeding.album group i end _ _ file middle before _ r
    (says_at m group.bytes.items group.places.items c.args.blocks.now (length c.args.blocks.now) i _ c.requires.decoded c.feeding-test.true c.index-blocks-index.is) below (picked_as group.spots.items c.as_slice-spots.result.now i _ c.as_slice-spots.ensures.value below) in
    told_held n.later file middle _ _
    (c.in_err-feed_one.ensures.err (At m r.at) (At m (next_position r.at n.block)) n.block file (held r.rest middle) (held n.later middle) before (n.reads file middle) r.gathered)
    (λ all some rest is more. is more))

pub feeding-preserved : goal.feeding-preserved
feeding-preserved g c =
    let m = c.args.player.now.minor in
    let group = c.args.group.now in
    let i = c.feeding.index in
    let did = c.in_ok-feed_one.ensures in
    let below : i < length group.spots.items = omega (arith, c.feeding-test.true, c.requires.few) in
    record {
      read = alike_then c.args.player.now c.feeding.player c.feed_one.new.player c.feeding.invariant.read did.read;
      replaying = did.replaying;
      ready = did.album.listed;
      count = omega (arith, c.feeding.invariant.count, did.album.count);
      later = omega (arith, c.feeding.invariant.later, did.later);
      remains = λ at end blocks file middle before gathered.
          let r = c.feeding.invariant.remains at end blocks file middle before gathered in
          let n = next_block m c.feeding.player c.feeding.player c.feeding.album group i end _ _ file middle before _ r
          (says_at m group.bytes.items group.places.items c.args.blocks.now (length c.args.blocks.now) i _ c.requires.decoded c.feeding-test.true c.index-blocks-index.is) below (picked_as group.spots.items c.as_slice-spots.result.now i _ c.as_slice-spots.ensures.value below) in
          remains_next m c.feeding.player c.feed_one.new.player c.feeding.album c.feed_one.new.album group i end _ _ file middle before _ r.at r.front r.rest n
          (did.ok (At m r.at) (At m (next_position r.at n.block)) n.block file (held r.rest middle) (held n.later middle) before (n.reads file middle) r.gathered);
    }

pub returns-clause-ok : goal.returns-clause-ok
returns-clause-ok g c at end blocks file middle before gathered =
    let all : c.feeding.index ≡ length c.args.blocks.now = omega arith in
    subst (λ n. Remains c.args.player.now.minor c.feeding.player c.feeding.album c.args.group.now n end file middle before (g.K.Sink.taken c.feeding.sink)) all
    (c.feeding.invariant.remains at end blocks file middle before gathered)
