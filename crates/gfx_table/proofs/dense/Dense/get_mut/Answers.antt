use Rattle.std.proofs.Common.{inl, ◌-◌, length, slice_get, option_and_then, refl, sym, ap, ◌∙◌, arith, length-set}
use Rattle.std.proofs.lemmas.Option.{slice_get_within, slice_get_read}
use Rattle.std.specs.Prelude.{min}
use Rattle.gfx_table.specs.IdList.{places_in}
use Rattle.gfx_table.proofs.Densing.{get-rows_of, set_row}
use Rattle.gfx_table.proofs.dense.Dense.get_mut.Goals as goal

pub index_mut-requires : goal.index_mut-requires
index_mut-requires g c =
    let lt = slice_get_within c.self.inside.ids.items c.in-Some.place c.args.id (c.self.invariant.found c.args.id c.in-Some.place (sym c.in-Some.ensures)) in
    let each = c.self.invariant.each in
    omega (arith, lt, each)

pub returns-in-Some : goal.returns-in-Some
returns-in-Some g c =
    let ids = c.self.inside.ids in
    let rows = c.self.inside.rows in
    let places = places_in ids.items in
    let p = c.in-Some.place in
    let there = sym c.in-Some.ensures in
    let lt = slice_get_within ids.items p c.args.id (c.self.invariant.found c.args.id p there) in
    let each = c.self.invariant.each in
    let set = λ (w : g.row.V.Denot). set_row ids.items rows.items places c.self.invariant c.args.id p w there in
    let as_many = λ (w : g.row.V.Denot). ap (λ n. min ids.spare (rows.cap - n)) (length-set rows.items p w) in
    let row = slice_get_read rows.items (length rows.items) p c.index_mut.result.now refl (omega (arith, lt, each)) c.index_mut.ensures.value in
    rw (← c.self.view_is) (
      (λ i. inl (c.index_mut.result.ghost_name, λ w. record { map = (set w) i; spare = (as_many w) i })),
      record { writes_back = tt; value = sym (get-rows_of rows.items places c.args.id ∙ ap (option_and_then (slice_get rows.items)) there ∙ row) },
    )

pub returns-in-None : goal.returns-in-None
returns-in-None g c =
    let none = sym c.in-None.ensures in
    rw (← c.self.view_is) (refl, record { writes_back = tt; value = sym (get-rows_of c.self.inside.rows.items (places_in c.self.inside.ids.items) c.args.id ∙ ap (option_and_then (slice_get c.self.inside.rows.items)) none) })
