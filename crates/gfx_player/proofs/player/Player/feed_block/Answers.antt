use Rattle.std.proofs.Common.{Some, refl, sym, ap, subst, ◌∙◌}
use Rattle.gfx_blocks.specs.Payloads.{content_of}
use Rattle.gfx_replay.specs.Replayer.{IsFed}
use Rattle.gfx_player.specs.Fed.{history_of}
use Rattle.gfx_player.specs.Walks.{whole_of}
use Rattle.gfx_player.proofs.Walking.{fault_is, none_replayed, one_replayed}
use Rattle.gfx_player.proofs.player.Player.feed_block.Goals as goal

pub returns-in-Ok-Some-clause-ok : goal.returns-in-Ok-Some-clause-ok
returns-in-Ok-Some-clause-ok c fed bytes was =
    let content = content_of c.args.block.now in
    one_replayed c.args.self.now _ fed (whole_of c.args.number c.args.offset bytes c.args.block.now) c.in-Ok-Some.frame was
    (subst (IsFed c.feed.new.self (history_of fed) content) c.in-Ok-Some.field-0-is (c.in-Ok-Some.ensures.fed (history_of fed) was.replays)) (ap Some c.unwrap_or.ensures)
    (sym (fault_is c.args.self.now.replayer (history_of fed) content was.replays) ∙ sym (c.in-Ok-Some.ensures.rule was.replays.found))

pub returns-in-Ok-None-clause-ok : goal.returns-in-Ok-None-clause-ok
returns-in-Ok-None-clause-ok c fed bytes was =
    let content = content_of c.args.block.now in
    none_replayed c.args.self.now _ fed (whole_of c.args.number c.args.offset bytes c.args.block.now) was
    (subst (IsFed c.feed.new.self (history_of fed) content) c.in-Ok-None.field-0-is (c.in-Ok-None.ensures.fed (history_of fed) was.replays)) refl
    (sym (fault_is c.args.self.now.replayer (history_of fed) content was.replays) ∙ sym (c.in-Ok-None.ensures.rule was.replays.found))
