use Rattle.std.proofs.Common.{sym}
use Rattle.gfx_objects.specs.Objects.{answers}
use Rattle.gfx_commands.specs.Distinct.{is_distinct-ids}
use Rattle.gfx_commands.specs.Recordings.{buffers}
use Rattle.gfx_tracker.proofs.Ids.{kept_among}
use Rattle.gfx_tracker.proofs.asked.StateAnswers.bytes_kept.Goals as goal

pub returns : goal.returns
returns c =
    let s = c.args.self.now in
    let k = s.registry.objects in
    sym (c.totals.ensures.bytes (answers k).ids (is_distinct-ids k) (kept_among k (buffers s.recordings) s.plain))
