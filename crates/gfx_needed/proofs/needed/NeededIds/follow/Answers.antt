use Rattle.std.proofs.Common.{◌≡◌, ℕ, List, [], ◌∷◌, length, vec_len, refl, sym, ◌∙◌, arith, rules}
use Rattle.gfx_tracker.specs.Tracker.{answers}
use Rattle.gfx_needed.specs.NeededIds.{is_marked}
use Rattle.gfx_needed.proofs.Searching.{less_work, searched_on, searched_whole}
use Rattle.gfx_needed.proofs.needed.NeededIds.follow.Goals as goal

no_items : (xs : List ℕ) → length xs ≡ 0 → xs ≡ []
no_items [] e = refl
no_items (x ∷ xs) e = absurd (omega (arith, e))

pub pending-smaller : goal.pending-smaller
unfolding is_marked
pending-smaller c = less_work c.args.tracker.now [] c.in-Some.id c.pending.self _ c.mark_grounds.new.self c.in-Some.ensures.items (λ y. refl) c.in_ok-mark_grounds.ensures

pub pending-preserved : goal.pending-preserved
unfolding is_marked
pending-preserved c =
    λ range s.
    searched_on c.args.tracker.now range c.in-Some.id c.pending.self _ c.mark_grounds.new.self c.in-Some.ensures.items (λ y. refl) c.in_ok-mark_grounds.ensures (c.pending.invariant range s)

pub returns : goal.returns
unfolding is_marked
returns c =
    let same : vec_len c.pending.self.pending ≡ length c.pending.self.pending.items = search rules in
    λ range s. searched_whole (answers c.args.tracker.now) range c.pending.self (no_items c.pending.self.pending.items (sym same ∙ c.in_default.ensures.cases.0)) (c.pending.invariant range s)
