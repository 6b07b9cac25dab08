use Rattle.std.proofs.Common.{sym, ◌∙◌}
use Rattle.gfx_objects.specs.Objects.{answers}
use Rattle.gfx_commands.specs.Distinct.{is_distinct-ids}
use Rattle.gfx_commands.specs.Recordings.{buffers}
use Rattle.gfx_tracker.proofs.Ids.{kept_among}
use Rattle.gfx_tracker.proofs.asked.StateAnswers.commands_kept.Goals as goal

pub returns : goal.returns
returns c =
    let s = c.args.self.now in
    let k = s.registry.objects in
    c.from.ensures ∙ sym (c.totals.ensures.commands (answers k).ids (is_distinct-ids k) (kept_among k (buffers s.recordings) s.plain))
