use Rattle.std.proofs.Common.{sym, ap, ◌∙◌, ◌++◌, [], ◌∷◌, filter_map, take}
use Rattle.std.specs.List.{cons_option}
use Rattle.std.proofs.lemmas.List.{append-nil}
use Rattle.gfx_tracker.specs.Tracker.{answers}
use Rattle.gfx_replay.specs.Shown.{shown_by}
use Rattle.gfx_replay.proofs.Pushing.{filter_map_more}
use Rattle.gfx_replay.proofs.present.shown_pictures.Goals as goal
use Rattle.gfx_replay.proofs.present.shown_pictures.Goals.{in-Some+in_ok-push, in_default}

pub loop-present-preserved : goal.loop-present-preserved
loop-present-preserved c =
    let f = shown_by (answers c.args.tracker.now) in
    let more = filter_map_more f c.args.presents.now c.loop-present.present-index (record { swapchain = 0; index = 0 }) c.shown_picture.result c.loop-present-test.true c.shown_picture.ensures in
    elim c.match-shown_picture.branch [
      | in-Some+in_ok-push w ↦
          ap (λ p. p.items) w.pictures-is ∙ w.in_ok-push.ensures.items ∙ ap (λ xs. xs ++ w.in-Some.picture ∷ []) c.loop-present.invariant
          ∙ sym (more ∙ ap (λ o. filter_map f (take c.loop-present.present-index c.args.presents.now) ++ cons_option o []) w.in-Some.is)
      | in_default w ↦
          ap (λ p. p.items) w.pictures-is ∙ c.loop-present.invariant ∙ sym (append-nil (filter_map f (take c.loop-present.present-index c.args.presents.now)))
          ∙ sym (more ∙ ap (λ o. filter_map f (take c.loop-present.present-index c.args.presents.now) ++ cons_option o []) w.in_default.is)
    ]
