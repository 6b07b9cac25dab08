use Rattle.std.proofs.Common.{◌≡◌, length, cond, sym, ap, ◌∙◌, arith}
use Rattle.std.specs.FinMap as map
use Rattle.gfx_table.specs.Dense.{is_listed}
use Rattle.gfx_table.specs.IdList.{places_in}
use Rattle.gfx_table.proofs.Placing.{placed_push, no_place}
use Rattle.gfx_table.proofs.id_list.IdList.push.Goals as goal
use Rattle.gfx_table.proofs.id_list.IdList.push.Goals.{then-self, else-self}

pub insert-requires-clause-new : goal.insert-requires-clause-new
insert-requires-clause-new c =
    let s = c.self.inside in
    let none = ap (λ s. is_listed c.args.id s.items) c.self.view_is ∙ c.requires.new in
    ap (λ m. map.get m c.args.id) (c.self.invariant.kept ∙ ap (λ t. cond t (places_in s.ids.items) map.empty) c.if-self.true) ∙ no_place s.ids.items c.args.id none

pub invariant_of-self : goal.invariant_of-self
invariant_of-self c =
    let s = c.self.inside in
    let none = ap (λ s. is_listed c.args.id s.items) c.self.view_is ∙ c.requires.new in
    let put = map.insert s.places.map c.args.id (length s.ids.items) in
    elim c.if-self.branch [
      | then-self w ↦
          let many : w.len.result ≡ length s.ids.items = omega (arith, w.len.ensures, s.ids.ok) in
          rw (c.push_reserved.ensures.items, w.self-inside-is)
          (placed_push s.ids.items c.args.id s.is_placed s.places.map w.insert.new.self.map c.self.invariant none
          (w.insert.ensures.map ∙ ap (map.insert s.places.map c.args.id) many ∙ sym (ap (λ t. cond t put s.places.map) w.if-self.true)))
      | else-self w ↦
          rw (c.push_reserved.ensures.items, w.self-inside-is)
          (placed_push s.ids.items c.args.id s.is_placed s.places.map s.places.map c.self.invariant none (sym (ap (λ t. cond t put s.places.map) w.if-self.false)))
    ]
