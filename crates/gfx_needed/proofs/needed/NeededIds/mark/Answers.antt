use Rattle.std.proofs.Common.{◌==◌, ◌||◌, sym, ap, ◌∙◌}
use Rattle.gfx_tracker.specs.Tracker.{answers}
use Rattle.gfx_needed.specs.NeededIds.{is_marked}
use Rattle.gfx_needed.proofs.Marking.{marks_one}
use Rattle.gfx_needed.proofs.Trackers.{listed}
use Rattle.gfx_needed.proofs.needed.NeededIds.mark.Goals as goal

pub returns : goal.returns
unfolding is_marked
returns c =
    let live = sym c.is_live.ensures ∙ c.if-not-is_live.false in
    marks_one (answers c.args.tracker.now) c.args.id c.args.self.now _ (sym c.contains.ensures ∙ c.if-contains.false) live (listed c.args.tracker.now c.args.id live)
    (λ y. ap (λ f. f y) c.insert.ensures.ids ∙ ap (λ f. c.args.id == y || f y) c.in_ok-reserve.ensures.ids) c.in_ok-push.ensures.items
