use Rattle.std.proofs.Common.{cond, ap, ◌∙◌}
use Rattle.std.specs.FinMap as map
use Rattle.gfx_table.specs.IdList.{places_in}
use Rattle.gfx_table.proofs.Placing.{placed_none}
use Rattle.gfx_table.proofs.id_list.IdList.clear.Goals as goal
use Rattle.gfx_table.proofs.id_list.IdList.clear.Goals.{then-self, else-self}

pub invariant_of-self : goal.invariant_of-self
invariant_of-self c =
    placed_none _ _ _ c.clear.ensures.items (elim c.if-self.branch [
      | then-self w ↦ rw w.self-inside-is w.forget.ensures.places
      | else-self w ↦ rw w.self-inside-is (c.self.invariant.kept ∙ ap (λ t. cond t (places_in c.self.inside.ids.items) map.empty) w.if-self.false)
    ])
