use Rattle.std.proofs.Common.{refl, sym, ap, subst, ◌∙◌}
use Rattle.gfx_model.specs.Trimmed.{boundary, history_to}
use Rattle.gfx_tracker.specs.Tracker.{answers}
use Rattle.gfx_decode.specs.Decoding.{item_of}
use Rattle.gfx_range.specs.Follower.{Followed, Follows}
use Rattle.gfx_lean.proofs.Taking.{gathers, range_history}
use Rattle.gfx_lean.proofs.leaner.Leaner.gather.Goals as goal

pub returns-clause-ok : goal.returns-clause-ok
returns-clause-ok c = λ fed was goes.
    let w = item_of c.args.raw.now in
    let first = c.args.self.now.first in
    let h = history_to (boundary first fed) in
    let before = ap answers (c.tracker-boundary.ensures ∙ ap (λ r. r.tracker) c.replayer.ensures) ∙ was.has.replays.stands.answers_same in
    let both = c.in_ok-number.ensures.ok h (boundary first fed).rest before was.has.gathered (subst (Follows c.args.self.now.follower) (range_history first fed) was.follows) in
    let followed = subst (λ h. Followed c.add.new.follower h w.content c.in_ok-number.number) (sym (range_history first fed)) both.0 in
    gathers c.shows_frame.result c.args.self.now _ c.args.player.now fed w c.in_ok-number.number c.shows_frame.ensures was goes (record { first = refl; last = refl; minor = refl }) refl followed both.1
