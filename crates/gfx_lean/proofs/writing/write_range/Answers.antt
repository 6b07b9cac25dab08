use Rattle.std.proofs.Common.{ap, ◌∙◌}
use Rattle.gfx_range.specs.Range.{kept_by}
use Rattle.gfx_tracker.specs.Tracker.{answers}
use Rattle.gfx_lean.proofs.Leaving.{wrote_part, wrote_whole}
use Rattle.gfx_lean.proofs.writing.write_range.Goals as goal

pub returns-clause-ok : goal.returns-clause-ok
returns-clause-ok g c =
    wrote_whole c.args.minor c.args.first c.args.range c.args.replayer.now (kept_by c.in_ok-keep.keep) c.deref.result.now _ _ (c.deref.ensures.value ∙ ap (λ b. b.items) c.in_ok-keep.ensures.blocks)
    (λ h ws stands gathered. c.in_ok-keep.ensures.keep h ws (ap answers c.tracker.ensures ∙ stands.stands.answers_same) gathered) c.write_lean.result c.write_lean.ensures.ok

pub returns-clause-err : goal.returns-clause-err
returns-clause-err g c =
    wrote_part c.args.minor c.args.first c.args.range c.args.replayer.now (kept_by c.in_ok-keep.keep) c.deref.result.now _ _ (c.deref.ensures.value ∙ ap (λ b. b.items) c.in_ok-keep.ensures.blocks)
    (λ h ws stands gathered. c.in_ok-keep.ensures.keep h ws (ap answers c.tracker.ensures ∙ stands.stands.answers_same) gathered) c.write_lean.result c.write_lean.ensures.err c.write_lean.ensures.front
