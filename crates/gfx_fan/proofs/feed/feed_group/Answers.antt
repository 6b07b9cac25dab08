use Rattle.std.proofs.Common.{◌≡◌, ◌⊎◌, ◌<◌, length, sym, subst, ◌∙◌, arith, le_refl}
use Rattle.std.proofs.Math.Seq.{take-length}
use Rattle.std.proofs.lemmas.List.{drop_all}
use Rattle.std.proofs.lemmas.Result.{on_ok_weaker}
use Rattle.gfx_fan.proofs.Feeding.{alike_none}
use Rattle.gfx_fan.proofs.Grouping.{picked_as, remains_none}
use Rattle.gfx_fan.proofs.Answering.{are_decoded, bad_answers, bad_below, bad_block, first_bad_of, inside_front, no_blocks}
use Rattle.gfx_fan.proofs.feed.feed_group.Goals as goal

pub decode_all-requires-clause-version : goal.decode_all-requires-clause-version
decode_all-requires-clause-version g c κs outlives = subst (λ m. (m ≡ 1) ⊎ (m ≡ 2)) (sym c.minor.ensures) c.requires.version

pub decode_all-requires-clause-inside : goal.decode_all-requires-clause-inside
decode_all-requires-clause-inside g c κs outlives =
    let group = c.args.group.now in
    inside_front group.bytes.items c.as_slice-bytes.result.now group.places.items c.as_slice-places.result.now (length group.places.items) c.as_slice-bytes.ensures.value
    (c.as_slice-places.ensures.value ∙ sym (take-length group.places.items)) c.requires.inside

pub feed_blocks-requires-clause-decoded : goal.feed_blocks-requires-clause-decoded
feed_blocks-requires-clause-decoded g c κs outlives =
    let group = c.args.group.now in
    (are_decoded c.args.player.now.minor c.minor.result group.bytes.items c.as_slice-bytes.result.now group.places.items c.as_slice-places.result.now c.in-Ok.blocks.items c.as_slice-found.result.now (length group.places.items)
    (le_refl (length group.places.items)) c.minor.ensures c.as_slice-bytes.ensures.value (c.as_slice-places.ensures.value ∙ sym (take-length group.places.items)) c.as_slice-found.ensures.value c.in-Ok.ensures.blocks).said_so

pub feed_blocks-requires-clause-few : goal.feed_blocks-requires-clause-few
feed_blocks-requires-clause-few g c =
    let group = c.args.group.now in
    let d = are_decoded c.args.player.now.minor c.minor.result group.bytes.items c.as_slice-bytes.result.now group.places.items c.as_slice-places.result.now c.in-Ok.blocks.items c.as_slice-found.result.now (length group.places.items)
    (le_refl (length group.places.items)) c.minor.ensures c.as_slice-bytes.ensures.value (c.as_slice-places.ensures.value ∙ sym (take-length group.places.items)) c.as_slice-found.ensures.value c.in-Ok.ensures.blocks in
    omega (arith, d.count, c.requires.spots)

pub feed_blocks-requires-clause-room : goal.feed_blocks-requires-clause-room
feed_blocks-requires-clause-room g c =
    let group = c.args.group.now in
    let d = are_decoded c.args.player.now.minor c.minor.result group.bytes.items c.as_slice-bytes.result.now group.places.items c.as_slice-places.result.now c.in-Ok.blocks.items c.as_slice-found.result.now (length group.places.items)
    (le_refl (length group.places.items)) c.minor.ensures c.as_slice-bytes.ensures.value (c.as_slice-places.ensures.value ∙ sym (take-length group.places.items)) c.as_slice-found.ensures.value c.in-Ok.ensures.blocks in
    omega (arith, d.count, c.requires.room)

pub returns-in-Ok-clause-ok : goal.returns-in-Ok-clause-ok
returns-in-Ok-clause-ok g c =
    let group = c.args.group.now in
    let d = are_decoded c.args.player.now.minor c.minor.result group.bytes.items c.as_slice-bytes.result.now group.places.items c.as_slice-places.result.now c.in-Ok.blocks.items c.as_slice-found.result.now (length group.places.items)
    (le_refl (length group.places.items)) c.minor.ensures c.as_slice-bytes.ensures.value (c.as_slice-places.ensures.value ∙ sym (take-length group.places.items)) c.as_slice-found.ensures.value c.in-Ok.ensures.blocks in
    on_ok_weaker c.feed_blocks.result
    (λ fed at end blocks file middle before gathered.
    remains_none c.args.player.now.minor c.feed_blocks.new.player c.feed_blocks.new.album group (length c.as_slice-found.result.now) end file middle before (g.K.Sink.taken c.feed_blocks.new.sink)
    (fed at end blocks file middle before gathered) (drop_all (length c.as_slice-found.result.now) group.places.items (omega (arith, d.count))))
    c.feed_blocks.ensures.ok

-- ---- a bad payload

pub returns-in_ok-feed_front-in-Err-Bad-clause-err : goal.returns-in_ok-feed_front-in-Err-Bad-clause-err
returns-in_ok-feed_front-in-Err-Bad-clause-err g c at end blocks file middle before gathered =
    let group = c.args.group.now in
    let m = c.args.player.now.minor in
    let i = c.in-Err-Bad.place in
    let bad = first_bad_of m c.minor.result group.bytes.items c.as_slice-bytes.result.now group.places.items c.as_slice-places.result.now c.in-Err-Bad.fault i c.minor.ensures c.as_slice-bytes.ensures.value c.as_slice-places.ensures.value
    (rw c.in-Err-Bad.field-0-is at c.in-Err-Bad.ensures.fault) in
    let below : i < length group.spots.items = omega (arith, bad_below m group.bytes.items group.places.items c.in-Err-Bad.fault i bad, c.requires.spots) in
    let r = c.in_ok-feed_front-in-Err-Bad.ensures.ok at end blocks file middle before gathered in
    let b = bad_block m c.feed_front.new.player c.feed_front.new.album group i end _ c.in-Err-Bad.fault file middle before _ r bad below (picked_as group.spots.items c.as_slice-spots.result.now i _ c.as_slice-spots.ensures.value below) in
    bad_answers m c.feed_front.new.player c.feed_front.new.album _ c.in-Err-Bad.fault c.bad.result c.stop.result r.at r.rest file middle before _ _ b r.gathered c.bad.ensures c.stop.ensures.told

-- ---- no memory

pub returns-in-Err-WantMemory-clause-read : goal.returns-in-Err-WantMemory-clause-read
returns-in-Err-WantMemory-clause-read g c = alike_none c.args.player.now

pub returns-in-Err-WantMemory-clause-err : goal.returns-in-Err-WantMemory-clause-err
returns-in-Err-WantMemory-clause-err g c at end blocks file middle before gathered =
    let (shown, s) = gathered in
    no_blocks _ c.args.album.now shown c.args.group.now.bytes.items file middle before _ s
