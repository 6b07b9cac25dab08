use Rattle.std.proofs.Common.{sym, subst}
use Rattle.std.proofs.lemmas.List.{take_more}
use Rattle.gfx_tracker.specs.Tracker.{answers}
use Rattle.gfx_needed.specs.NeededIds.{Marks}
use Rattle.gfx_needed.proofs.Marking.{marks_then}
use Rattle.gfx_needed.proofs.needed.NeededIds.mark_all.Goals as goal

pub ids-preserved : goal.ids-preserved
ids-preserved c =
    subst (λ l. Marks (answers c.args.tracker.now) l c.args.self.now c.mark.new.self) (sym (take_more c.args.ids.now c.ids.id-index 0 c.ids-test.true))
    (marks_then (answers c.args.tracker.now) _ _ c.args.self.now c.ids.self c.mark.new.self c.ids.invariant c.in_ok-mark.ensures)
