use Rattle.std.proofs.Common.{◌≡◌, ℕ, Option, None, Some, arith, sym, refl, IsSome}
use Rattle.gfx_objects.proofs.Counts.{one_less, none_left, counted}
use Rattle.gfx_objects.proofs.children.ChildCounts.remove.Goals as goal

some_of : (o : Option ℕ) → (None ≡ o → ⊥) → IsSome o
some_of None h = absurd (h refl)
some_of (Some n) h = refl

pub set-requires : goal.set-requires
set-requires c none = absurd (counted c.args.self.now.counts.map c.args.parent c.get-count.result c.get-count.ensures (omega arith) (sym none))

pub returns-then-count-le1-clause-counts : goal.returns-then-count-le1-clause-counts
returns-then-count-le1-clause-counts c =
    rw c.remove-count.ensures.map (none_left c.args.self.now.counts.map c.args.parent c.get-count.result c.get-count.ensures (omega arith))

pub returns-else-count-le1-clause-counts : goal.returns-else-count-le1-clause-counts
returns-else-count-le1-clause-counts c = rw c.set.ensures.map (one_less c.args.self.now.counts.map c.args.parent c.get-count.result c.get-count.ensures)

pub returns-else-count-le1-clause-room : goal.returns-else-count-le1-clause-room
returns-else-count-le1-clause-room c =
    c.set.ensures.kept (some_of _ (counted c.args.self.now.counts.map c.args.parent c.get-count.result c.get-count.ensures (omega arith)))
