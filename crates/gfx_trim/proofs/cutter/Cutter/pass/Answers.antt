use Rattle.std.proofs.Common.{refl, sym, ◌∙◌}
use Rattle.gfx_decode.specs.Decoding.{item_of}
use Rattle.gfx_player.specs.Fed.{history_of}
use Rattle.gfx_trim.proofs.Taking.{fed_so, number_is, passes_cut, passes_on}
use Rattle.gfx_trim.proofs.cutter.Cutter.pass.Goals as goal

pub returns-then-begins_behind-clause-ok : goal.returns-then-begins_behind-clause-ok
returns-then-begins_behind-clause-ok c fed a =
    let w = item_of c.args.raw.now in
    let took = c.in_ok-feed.ensures.ok fed a.replayed in (
      refl,
      passes_cut c.args.self.now c.args.player.now c.feed.new.self fed w c.requires.phase a (fed_so c.feed.new.self fed w c.in_ok-feed.field-0 took)
          (sym (c.begins_behind.ensures (history_of fed) (c.shown_number-number.ensures ∙ number_is c.feed.new.self fed w c.in_ok-feed.field-0 took)) ∙ c.if-begins_behind.true),
    )

pub returns-else-begins_behind-clause-ok : goal.returns-else-begins_behind-clause-ok
returns-else-begins_behind-clause-ok c fed a =
    let w = item_of c.args.raw.now in
    let took = c.in_ok-feed.ensures.ok fed a.replayed in (
      refl,
      passes_on c.args.self.now c.args.player.now c.feed.new.self fed w c.requires.phase a (fed_so c.feed.new.self fed w c.in_ok-feed.field-0 took)
          (sym (c.begins_behind.ensures (history_of fed) (c.shown_number-number.ensures ∙ number_is c.feed.new.self fed w c.in_ok-feed.field-0 took)) ∙ c.if-begins_behind.false),
    )
