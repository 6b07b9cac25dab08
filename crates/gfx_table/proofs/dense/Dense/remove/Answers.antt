use Rattle.std.proofs.Common.{◌+◌, length, slice_get, option_and_then, refl, sym, ap, ◌∙◌, arith}
use Rattle.std.specs.FinMap as map
use Rattle.std.proofs.lemmas.Option.{slice_get_within, slice_get_read}
use Rattle.gfx_table.specs.Dense.{rows_of}
use Rattle.gfx_table.specs.IdList.{places_in}
use Rattle.gfx_table.proofs.Densing.{remove_missing, get-rows_of, moved, remove_row}
use Rattle.gfx_table.proofs.Placing.{one_way, one_less, placed_anew}
use Rattle.gfx_table.proofs.dense.Dense.remove.Goals as goal

pub returns-in_err-place-clause-value : goal.returns-in_err-place-clause-value
returns-in_err-place-clause-value g c =
    c.from_residual.ensures ∙ ap (option_and_then (slice_get c.self.inside.rows.items)) c.in_err-place.ensures
    ∙ sym (get-rows_of c.self.inside.rows.items (places_in c.self.inside.ids.items) c.args.id) ∙ ap (λ s. map.get s.map c.args.id) c.self.view_is

pub returns-in_err-place-clause-map : goal.returns-in_err-place-clause-map
returns-in_err-place-clause-map g c =
    let none = sym c.in_err-place.ensures in
    let missing = sym (ap (λ s. map.get s.map c.args.id) c.self.view_is) ∙ get-rows_of c.self.inside.rows.items (places_in c.self.inside.ids.items) c.args.id ∙ ap (option_and_then (slice_get c.self.inside.rows.items)) none in
    sym (remove_missing c.args.self.now.map c.args.id missing)

pub swap_remove-id-requires : goal.swap_remove-id-requires
swap_remove-id-requires g c = slice_get_within c.self.inside.ids.items c.in_ok-place.place c.args.id (c.self.invariant.found c.args.id c.in_ok-place.place (sym c.in_ok-place.ensures))

pub swap_remove-requires : goal.swap_remove-requires
swap_remove-requires g c =
    let lt = slice_get_within c.self.inside.ids.items c.in_ok-place.place c.args.id (c.self.invariant.found c.args.id c.in_ok-place.place (sym c.in_ok-place.ensures)) in
    let each = c.self.invariant.each in
    omega (arith, lt, each, c.self.inside.rows.ok)

pub invariant_of-self : goal.invariant_of-self
invariant_of-self g c =
    let old = c.self.inside.ids.items in
    let p = c.in_ok-place.place in
    let there = sym c.in_ok-place.ensures in
    let each = c.self.invariant.each in
    let lt = slice_get_within old p c.args.id (c.self.invariant.found c.args.id p there) in
    let ids = moved old c.swap_remove-id.new.self.items p c.swap_remove-id.result lt (ap (λ l. length l + 1) c.swap_remove-id.ensures.items ∙ one_less old p c.swap_remove-id.result lt) c.swap_remove-id.ensures.items in
    let rows = moved c.self.inside.rows.items c.swap_remove.new.self.items p c.swap_remove.result (omega (arith, lt, each)) (omega (arith, c.swap_remove.ensures.len, c.self.inside.rows.ok, c.swap_remove.new.self.ok)) c.swap_remove.ensures.items in
    placed_anew _ _ _ (remove_row old c.swap_remove-id.new.self.items c.self.inside.rows.items c.swap_remove.new.self.items (places_in old) c.self.invariant c.args.id p there ids rows _ refl).0

pub returns-clause-value : goal.returns-clause-value
returns-clause-value g c =
    let there = sym c.in_ok-place.ensures in
    let each = c.self.invariant.each in
    let lt = slice_get_within c.self.inside.ids.items c.in_ok-place.place c.args.id (c.self.invariant.found c.args.id c.in_ok-place.place there) in
    let row = slice_get_read c.self.inside.rows.items (length c.self.inside.rows.items) c.in_ok-place.place c.swap_remove.result refl (omega (arith, lt, each)) c.swap_remove.ensures.value in
    sym row ∙ ap (option_and_then (slice_get c.self.inside.rows.items)) (sym there)
    ∙ sym (get-rows_of c.self.inside.rows.items (places_in c.self.inside.ids.items) c.args.id) ∙ ap (λ s. map.get s.map c.args.id) c.self.view_is

pub returns-clause-map : goal.returns-clause-map
returns-clause-map g c =
    let old = c.self.inside.ids.items in
    let p = c.in_ok-place.place in
    let there = sym c.in_ok-place.ensures in
    let each = c.self.invariant.each in
    let lt = slice_get_within old p c.args.id (c.self.invariant.found c.args.id p there) in
    let ids = moved old c.swap_remove-id.new.self.items p c.swap_remove-id.result lt (ap (λ l. length l + 1) c.swap_remove-id.ensures.items ∙ one_less old p c.swap_remove-id.result lt) c.swap_remove-id.ensures.items in
    let rows = moved c.self.inside.rows.items c.swap_remove.new.self.items p c.swap_remove.result (omega (arith, lt, each)) (omega (arith, c.swap_remove.ensures.len, c.self.inside.rows.ok, c.swap_remove.new.self.ok)) c.swap_remove.ensures.items in
    let gone = remove_row old c.swap_remove-id.new.self.items c.self.inside.rows.items c.swap_remove.new.self.items (places_in old) c.self.invariant c.args.id p there ids rows _ refl in
    ap (rows_of c.swap_remove.new.self.items) (sym (one_way _ _ _ gone.0)) ∙ gone.1 ∙ ap (λ s. map.remove s.map c.args.id) c.self.view_is
