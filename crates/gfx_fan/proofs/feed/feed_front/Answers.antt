use Rattle.std.proofs.Common.{◌≡◌, ◌⊎◌, take, sym, ap, subst, arith}
use Rattle.std.proofs.lemmas.Result.{on_ok_weaker}
use Rattle.gfx_fan.specs.Groups.{Remains}
use Rattle.gfx_fan.proofs.Feeding.{alike_none}
use Rattle.gfx_fan.proofs.Answering.{are_decoded, inside_front, no_blocks}
use Rattle.gfx_fan.proofs.feed.feed_front.Goals as goal

pub decode_all-requires-clause-version : goal.decode_all-requires-clause-version
decode_all-requires-clause-version g c κs outlives = subst (λ m. (m ≡ 1) ⊎ (m ≡ 2)) (sym c.minor.ensures) c.requires.version

pub decode_all-requires-clause-inside : goal.decode_all-requires-clause-inside
decode_all-requires-clause-inside g c κs outlives =
    let group = c.args.group.now in
    inside_front group.bytes.items c.as_slice-bytes.result.now group.places.items (take c.args.count c.as_slice-all.result.now) c.args.count c.as_slice-bytes.ensures.value
    (ap (take c.args.count) c.as_slice-all.ensures.value) c.requires.inside

pub feed_blocks-requires-clause-decoded : goal.feed_blocks-requires-clause-decoded
feed_blocks-requires-clause-decoded g c κs outlives =
    let group = c.args.group.now in
    (are_decoded c.args.player.now.minor c.minor.result group.bytes.items c.as_slice-bytes.result.now group.places.items (take c.args.count c.as_slice-all.result.now) c.in-Ok.blocks.items c.as_slice-found.result.now c.args.count
    c.requires.few c.minor.ensures c.as_slice-bytes.ensures.value (ap (take c.args.count) c.as_slice-all.ensures.value) c.as_slice-found.ensures.value c.in-Ok.ensures.blocks).said_so

pub feed_blocks-requires-clause-few : goal.feed_blocks-requires-clause-few
feed_blocks-requires-clause-few g c =
    let group = c.args.group.now in
    let d = are_decoded c.args.player.now.minor c.minor.result group.bytes.items c.as_slice-bytes.result.now group.places.items (take c.args.count c.as_slice-all.result.now) c.in-Ok.blocks.items c.as_slice-found.result.now c.args.count
    c.requires.few c.minor.ensures c.as_slice-bytes.ensures.value (ap (take c.args.count) c.as_slice-all.ensures.value) c.as_slice-found.ensures.value c.in-Ok.ensures.blocks in
    omega (arith, d.count, c.requires.few, c.requires.spots)

pub feed_blocks-requires-clause-room : goal.feed_blocks-requires-clause-room
feed_blocks-requires-clause-room g c =
    let group = c.args.group.now in
    let d = are_decoded c.args.player.now.minor c.minor.result group.bytes.items c.as_slice-bytes.result.now group.places.items (take c.args.count c.as_slice-all.result.now) c.in-Ok.blocks.items c.as_slice-found.result.now c.args.count
    c.requires.few c.minor.ensures c.as_slice-bytes.ensures.value (ap (take c.args.count) c.as_slice-all.ensures.value) c.as_slice-found.ensures.value c.in-Ok.ensures.blocks in
    omega (arith, d.count, c.requires.few, c.requires.room)

pub returns-in-Ok-clause-ok : goal.returns-in-Ok-clause-ok
returns-in-Ok-clause-ok g c =
    let group = c.args.group.now in
    let d = are_decoded c.args.player.now.minor c.minor.result group.bytes.items c.as_slice-bytes.result.now group.places.items (take c.args.count c.as_slice-all.result.now) c.in-Ok.blocks.items c.as_slice-found.result.now c.args.count
    c.requires.few c.minor.ensures c.as_slice-bytes.ensures.value (ap (take c.args.count) c.as_slice-all.ensures.value) c.as_slice-found.ensures.value c.in-Ok.ensures.blocks in
    on_ok_weaker c.feed_blocks.result
    (λ fed at end blocks file middle before gathered.
    subst (λ n. Remains c.args.player.now.minor c.feed_blocks.new.player c.feed_blocks.new.album group n end file middle before (g.K.Sink.taken c.feed_blocks.new.sink)) d.count (fed at end blocks file middle before gathered))
    c.feed_blocks.ensures.ok

pub returns-in-Err-clause-read : goal.returns-in-Err-clause-read
returns-in-Err-clause-read g c = alike_none c.args.player.now

pub returns-in-Err-clause-err : goal.returns-in-Err-clause-err
returns-in-Err-clause-err g c at end blocks file middle before gathered =
    let (shown, s) = gathered in
    no_blocks _ c.args.album.now shown c.args.group.now.bytes.items file middle before _ s
