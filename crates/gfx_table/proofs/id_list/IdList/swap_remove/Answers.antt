use Rattle.std.proofs.Common.{IsSome, ◌<◌, length, slice_get, cond, refl, sym, ap, subst, ◌∙◌, ◌+◌}
use Rattle.std.specs.FinMap as map
use Rattle.std.proofs.lemmas.Option.{slice_get_read}
use Rattle.gfx_table.specs.Dense.{settled}
use Rattle.gfx_table.specs.IdList.{places_in}
use Rattle.gfx_table.proofs.Densing.{moved, still_placed}
use Rattle.gfx_table.proofs.Placing.{dense_in, one_less, placed_taken}
use Rattle.gfx_table.proofs.id_list.IdList.swap_remove.Goals as goal

pub settle-requires : goal.settle-requires
settle-requires c m at =
    let old = c.self.inside.ids.items in
    let id = c.swap_remove-id.result in
    let p = c.args.place in
    let lt = subst (λ s. p < length s.items) (sym c.self.view_is) c.requires in
    let items = c.swap_remove-id.ensures.items in
    let move = moved old c.swap_remove-id.new.self.items p id lt (ap (λ l. length l + 1) items ∙ one_less old p id lt) items in
    let there = slice_get_read old (length old) p id refl lt c.swap_remove-id.ensures.value in
    let same = c.self.invariant.kept ∙ ap (λ t. cond t (places_in old) map.empty) c.if-self.true in
    let dense = dense_in old (length old) c.self.invariant.apart refl in
    subst (λ n. IsSome (map.get n m)) (sym (c.remove-place.ensures.map ∙ ap (λ n. map.remove n id) same))
    (still_placed old c.swap_remove-id.new.self.items (length old) (places_in old) dense id p (dense.placed id p there) move m (rw c.deref.ensures.value at at))

pub invariant_of-self : goal.invariant_of-self
invariant_of-self c =
    let s = c.self.inside in
    let gone = c.swap_remove-id in
    let lt = subst (λ s. c.args.place < length s.items) (sym c.self.view_is) c.requires in
    placed_taken s.ids.items gone.new.self.items gone.result c.args.place s.is_placed s.places.map c.settle.new.places.map c.self.invariant lt gone.ensures.value gone.ensures.items
    (c.settle.ensures.map ∙ ap (λ m. settled m (slice_get c.deref.result.now c.args.place) c.args.place) c.remove-place.ensures.map
    ∙ ap (λ l. settled (map.remove s.places.map gone.result) (slice_get l c.args.place) c.args.place) c.deref.ensures.value
    ∙ sym (ap (λ t. cond t (settled (map.remove s.places.map gone.result) (slice_get gone.new.self.items c.args.place) c.args.place) s.places.map) c.if-self.true))

pub invariant_of-self-else-self : goal.invariant_of-self-else-self
invariant_of-self-else-self c =
    let s = c.self.inside in
    let gone = c.swap_remove-id in
    let lt = subst (λ s. c.args.place < length s.items) (sym c.self.view_is) c.requires in
    placed_taken s.ids.items gone.new.self.items gone.result c.args.place s.is_placed s.places.map s.places.map c.self.invariant lt gone.ensures.value gone.ensures.items
    (sym (ap (λ t. cond t (settled (map.remove s.places.map gone.result) (slice_get gone.new.self.items c.args.place) c.args.place) s.places.map) c.if-self.false))
