use Rattle.std.proofs.Common.{rules, ◌≡◌, [], ◌∷◌, Some, Option, List, ℕ, sym, ap, subst}
use Rattle.atomic_table.specs.Table.{opening}
use Rattle.gfx_seats.specs.View.{opening_view}
use Rattle.gfx_seats.specs.Rule.{IsKept}
use Rattle.gfx_seats.proofs.Opens.{opens}
use Rattle.gfx_seats.proofs.opening.lay_out.Goals as goal

pub new-requires : goal.new-requires
new-requires g c = let v = g.V.Grows in let items : c.in_ok-slots.slots.items ≡ Some c.args.value ∷ [] = search rules in let seats = c.args.about.now.seats in
    subst (λ (z : List (Option g.row.V.Denot) × ℕ). IsKept v.entries v.thread_of v.ids_of v.kind seats z.1 (opening (1 ∷ 0 ∷ 0 ∷ 0 ∷ []) z.0 (opening_view z.1 seats)))
    (λ i. (sym items i, sym (ap v.kind c.requires.about.0) i)) (opens v.entries v.thread_of v.ids_of v.kind seats c.args.value c.requires.empty c.requires.about.1 c.requires.about.2)
