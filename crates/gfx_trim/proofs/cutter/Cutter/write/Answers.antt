use Rattle.gfx_decode.specs.Decoding.{item_of}
use Rattle.std.proofs.Common.{◌∙◌}
use Rattle.gfx_io.proofs.Appending.{whole_part}
use Rattle.gfx_trim.proofs.Taking.{fed_so, number_is, writes}
use Rattle.gfx_trim.proofs.cutter.Cutter.write.Goals as goal

pub returns-clause-ok : goal.returns-clause-ok
returns-clause-ok g c fed was is goes =
    let w = item_of c.args.raw.now in
    let took = c.in_ok-feed.ensures.ok fed was in
    writes c.shows_frame.result c.args.self.now c.args.player.now c.feed.new.self fed w c.shown_number-number.result c.shows_frame.ensures (c.shown_number-number.ensures ∙ number_is c.feed.new.self fed w c.in_ok-feed.field-0 took) was is goes
    (fed_so c.feed.new.self fed w c.in_ok-feed.field-0 took)

pub returns-clause-front : goal.returns-clause-front
returns-clause-front g c = whole_part _ _ c.args.raw.now.bytes.now c.in_ok-write_whole.ensures.bytes
