use Rattle.std.proofs.Common.{◌++◌, ◌∷◌, [], sym, subst, arith}
use Rattle.std.specs.List.{AllByRecursion}
use Rattle.std.proofs.lemmas.Result.{IfErr-weaker, on_ok_weaker}
use Rattle.gfx_io.specs.Pieces.{AppendsPart}
use Rattle.gfx_frames.specs.Texts.{text_of}
use Rattle.gfx_replay.specs.Replayer.{bytes_of}
use Rattle.gfx_replay.specs.Shown.{IsThere, frame_of}
use Rattle.gfx_player.specs.Walks.{whole_of}
use Rattle.gfx_fan.specs.Kept.{TakesFrame, kept_lines}
use Rattle.gfx_fan.proofs.Feeding.{is_refused, replay_writes, shows_next, shows_none, stop_feed, unwritten_feed}
use Rattle.gfx_fan.proofs.Gathering.{frame_any, gathered_more, stopped_any}
use Rattle.gfx_fan.proofs.Keeping.{goes_on}
use Rattle.gfx_fan.proofs.feed.feed_one.Goals as goal

pub show-requires-clause-there : goal.show-requires-clause-there
show-requires-clause-there g c κs outlives =
    let (fed, done) = c.requires.replaying in
    let took = rw c.in-Ok-Some.field-0-is at c.in-Ok-Some.ensures.ok in
    subst (λ r. AllByRecursion (IsThere (bytes_of r)) c.in-Ok-Some.frame.pictures.items) (sym c.replayer.ensures) (took fed [] done).shows.there

pub returns-in-Ok-Some-clause-replaying : goal.returns-in-Ok-Some-clause-replaying
returns-in-Ok-Some-clause-replaying g c =
    let (fed, done) = c.requires.replaying in
    let took = rw c.in-Ok-Some.field-0-is at c.in-Ok-Some.ensures.ok in
    on_ok_weaker c.show.result (λ shown. (fed ++ whole_of c.args.spot.number c.args.spot.offset [] c.args.block.now ∷ [], (took fed [] done).replayed)) c.show.ensures.ok

pub returns-in-Ok-Some-clause-album : goal.returns-in-Ok-Some-clause-album
returns-in-Ok-Some-clause-album g c = on_ok_weaker c.show.result (goes_on c.args.album.now c.show.new.self _ _ _ c.requires.ready) c.show.ensures.ok

pub returns-in-Ok-Some-clause-ok : goal.returns-in-Ok-Some-clause-ok
returns-in-Ok-Some-clause-ok g c =
    let took = rw c.in-Ok-Some.field-0-is at c.in-Ok-Some.ensures.ok in
    let p = c.feed_block.new.self in
    on_ok_weaker c.show.result
    (λ shows old next bytes file left rest before reads gathered.
    let (shown, s) = gathered in (
      shown ++ frame_of (bytes_of p.replayer) c.in-Ok-Some.frame ∷ [],
      gathered_more _ _ c.args.album.now c.show.new.self shown c.in-Ok-Some.frame file left rest before (g.K.Sink.taken c.args.sink.now) (g.K.Sink.taken c.show.new.sink) s
          (shows_next c.args.player.now p c.args.album.now old next (whole_of c.args.spot.number c.args.spot.offset bytes c.args.block.now) c.in-Ok-Some.frame shown file left rest before _ s reads c.feed_block.ensures.same (λ fed done. took fed bytes done))
          c.feed_block.ensures.same.minor
          (subst (λ r. TakesFrame c.args.album.now c.show.new.self (text_of (bytes_of r) c.args.album.now.screen.listing c.in-Ok-Some.frame) (g.K.Sink.taken c.args.sink.now) (g.K.Sink.taken c.show.new.sink)) c.replayer.ensures shows),
    ))
    c.show.ensures.ok

pub returns-in-Ok-Some-clause-err : goal.returns-in-Ok-Some-clause-err
returns-in-Ok-Some-clause-err g c =
    let took = rw c.in-Ok-Some.field-0-is at c.in-Ok-Some.ensures.ok in
    let p = c.feed_block.new.self in
    IfErr-weaker c.show.result _ _
    (λ why unwritten old next bytes file left rest before reads gathered.
    let (shown, s) = gathered in
    frame_any _ _ c.args.album.now shown c.in-Ok-Some.frame why file left rest before (g.K.Sink.taken c.args.sink.now) (g.K.Sink.taken c.show.new.sink) s
    (shows_next c.args.player.now p c.args.album.now old next (whole_of c.args.spot.number c.args.spot.offset bytes c.args.block.now) c.in-Ok-Some.frame shown file left rest before _ s reads c.feed_block.ensures.same (λ fed done. took fed bytes done))
    c.feed_block.ensures.same.minor unwritten
    (subst (λ r. AppendsPart (g.K.Sink.taken c.args.sink.now) (g.K.Sink.taken c.show.new.sink) (kept_lines c.args.album.now ++ text_of (bytes_of r) c.args.album.now.screen.listing c.in-Ok-Some.frame)) c.replayer.ensures c.show.ensures.front))
    c.show.ensures.err

pub returns-in-Ok-Some-clause-kind : goal.returns-in-Ok-Some-clause-kind
returns-in-Ok-Some-clause-kind g c = IfErr-weaker c.show.result _ _ unwritten_feed c.show.ensures.err

pub returns-in-Ok-None-clause-replaying : goal.returns-in-Ok-None-clause-replaying
returns-in-Ok-None-clause-replaying g c =
    let (fed, done) = c.requires.replaying in
    let took = rw c.in-Ok-None.field-0-is at c.in-Ok-None.ensures.ok in
    (fed ++ whole_of c.args.spot.number c.args.spot.offset [] c.args.block.now ∷ [], (took fed [] done).replayed)

pub returns-in-Ok-None-clause-album : goal.returns-in-Ok-None-clause-album
returns-in-Ok-None-clause-album g c = record { listed = c.requires.ready; count = omega arith }

pub returns-in-Ok-None-clause-ok : goal.returns-in-Ok-None-clause-ok
returns-in-Ok-None-clause-ok g c old next bytes file left rest before reads gathered =
    let took = rw c.in-Ok-None.field-0-is at c.in-Ok-None.ensures.ok in
    let (shown, s) = gathered in (
      shown,
      shows_none c.args.player.now c.feed_block.new.self c.args.album.now old next (whole_of c.args.spot.number c.args.spot.offset bytes c.args.block.now) shown file left rest before _ s reads c.feed_block.ensures.same
          (λ fed done. took fed bytes done),
    )

pub returns-in-Err-clause-err : goal.returns-in-Err-clause-err
returns-in-Err-clause-err g c old next bytes file left rest before reads gathered =
    let (shown, s) = gathered in
    stopped_any _ c.args.album.now shown c.in-Err.why c.stop.result file left rest before (g.K.Sink.taken c.args.sink.now) (g.K.Sink.taken c.stop.new.sink) s
    (is_refused c.args.player.now c.args.album.now old next (whole_of c.args.spot.number c.args.spot.offset bytes c.args.block.now) c.in-Err.why shown file left rest before _ s reads c.in-Err.ensures.kind
    (λ fed done. c.in-Err.ensures.err fed bytes done))
    c.in-Err.ensures.kind c.stop.ensures.told

pub returns-in-Err-clause-kind : goal.returns-in-Err-clause-kind
returns-in-Err-clause-kind g c = stop_feed c.in-Err.why c.stop.result c.args.album.now (g.K.Sink.taken c.args.sink.now) (g.K.Sink.taken c.stop.new.sink) c.in-Err.ensures.kind c.stop.ensures.told

pub returns-in-Err-clause-cause : goal.returns-in-Err-clause-cause
returns-in-Err-clause-cause g c is = c.stop.ensures.cause (cc is) (replay_writes c.in-Err.why c.in-Err.ensures.kind)
