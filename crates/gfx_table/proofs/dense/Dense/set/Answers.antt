use Rattle.std.proofs.Common.{◌++◌, ◌∷◌, [], IsSome, subst, slice_get, option_and_then, sym, ap, ◌∙◌, arith}
use Rattle.std.specs.FinMap as map
use Rattle.std.proofs.lemmas.Option.{slice_get_within}
use Rattle.gfx_table.specs.Dense.{rows_of}
use Rattle.gfx_table.specs.IdList.{places_in}
use Rattle.gfx_table.proofs.Densing.{get-rows_of, set_row, push_row}
use Rattle.gfx_table.proofs.Placing.{apart_in, not_listed, one_way, placed_anew}
use Rattle.gfx_table.proofs.dense.Dense.set.Goals as goal

pub index_mut-requires : goal.index_mut-requires
index_mut-requires g c =
    let lt = slice_get_within c.self.inside.ids.items c.in-Some.place c.args.id (c.self.invariant.found c.args.id c.in-Some.place (sym c.in-Some.ensures)) in
    let each = c.self.invariant.each in
    omega (arith, lt, each)

pub push-requires-clause-new : goal.push-requires-clause-new
push-requires-clause-new g c = not_listed c.self.inside.ids.items c.args.id (apart_in _ _ _ c.self.invariant) (sym c.in-None.ensures)

pub push-requires-clause-room : goal.push-requires-clause-room
push-requires-clause-room g c =
    let none = sym c.in-None.ensures in
    let spare = c.requires (sym (ap (λ s. map.get s.map c.args.id) c.self.view_is) ∙ get-rows_of c.self.inside.rows.items (places_in c.self.inside.ids.items) c.args.id ∙ ap (option_and_then (slice_get c.self.inside.rows.items)) none) in
    let is = ap (λ s. s.spare) c.self.view_is in
    omega (arith, spare, is)

pub push_reserved-requires : goal.push_reserved-requires
push_reserved-requires g c =
    let none = sym c.in-None.ensures in
    let spare = c.requires (sym (ap (λ s. map.get s.map c.args.id) c.self.view_is) ∙ get-rows_of c.self.inside.rows.items (places_in c.self.inside.ids.items) c.args.id ∙ ap (option_and_then (slice_get c.self.inside.rows.items)) none) in
    let is = ap (λ s. s.spare) c.self.view_is in
    omega (arith, spare, is)

pub invariant_of-self-in-None : goal.invariant_of-self-in-None
invariant_of-self-in-None g c =
    let put = push_row c.self.inside.ids.items c.self.inside.rows.items (places_in c.self.inside.ids.items) c.self.invariant c.args.id c.args.row (sym c.in-None.ensures) in
    rw (c.push.ensures.items, c.push_reserved.ensures.items) (placed_anew _ _ _ put.0)

pub returns-in-Some-clause-map : goal.returns-in-Some-clause-map
returns-in-Some-clause-map g c =
    set_row c.self.inside.ids.items c.self.inside.rows.items (places_in c.self.inside.ids.items) c.self.invariant c.args.id c.in-Some.place c.args.row (sym c.in-Some.ensures)
    ∙ ap (λ s. map.insert s.map c.args.id c.args.row) c.self.view_is

pub returns-in-None-clause-map : goal.returns-in-None-clause-map
returns-in-None-clause-map g c =
    let put = push_row c.self.inside.ids.items c.self.inside.rows.items (places_in c.self.inside.ids.items) c.self.invariant c.args.id c.args.row (sym c.in-None.ensures) in
    rw (c.push.ensures.items, c.push_reserved.ensures.items)
    (ap (rows_of (c.self.inside.rows.items ++ c.args.row ∷ [])) (sym (one_way _ _ _ put.0)) ∙ put.1 ∙ ap (λ s. map.insert s.map c.args.id c.args.row) c.self.view_is)

pub returns-in-None-clause-kept : goal.returns-in-None-clause-kept
returns-in-None-clause-kept g c some =
    let none = sym c.in-None.ensures in
    let missing = sym (ap (λ s. map.get s.map c.args.id) c.self.view_is) ∙ get-rows_of c.self.inside.rows.items (places_in c.self.inside.ids.items) c.args.id ∙ ap (option_and_then (slice_get c.self.inside.rows.items)) none in
    let bad = subst IsSome missing some in grind (arith, bad)
