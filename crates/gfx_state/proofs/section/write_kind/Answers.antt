use Rattle.std.proofs.Common.{◌≡◌, ◌==◌, ◌<◌, ◌∙◌, ◌+◌, ℕ, Bool, false, List, length, map, get_or, Option, None, Some, drop, ap, sym, refl, arith}
use Rattle.std.specs.Prelude.{flat_map, filter, option_map}
use Rattle.std.specs.Option.{option_map_or}
use Rattle.std.proofs.lemmas.List.{get_or-map}
use Rattle.gfx_types.specs.declared.names.Kind.{Kind}
use Rattle.gfx_model.specs.Steps.{Object, kind_of, kind_number}
use Rattle.gfx_model.specs.Views.{View, is_live}
use Rattle.gfx_state.specs.Parts.{answers_in}
use Rattle.gfx_state.specs.Sections.{kind_at, kept_at}
use Rattle.gfx_state.proofs.Writing.{wrote_as, leads_on, leads_as, leads_out, leads_end, picked_next, passed_next, picked_over}
use Rattle.gfx_state.proofs.section.write_kind.Goals as goal
use Rattle.gfx_state.proofs.section.write_kind.Goals.{then-is_of+in_ok-write_at, else-is_of}

-- what was found of an id tells whether it is live and of the kind
found_live : (v : View) (k : Kind) (ids : List ℕ) (found : List (Option Kind)) (i : ℕ) (d : Option Kind) (b : Bool) → found ≡ map (kind_at v) ids → i < length ids
    → b ≡ option_map_or (λ n. kind_number n == kind_number k) (get_or found i d) false → is_live v k (get_or ids i 0) ≡ b
found_live v k ids found i d b is below told =
    let here : get_or found i d ≡ kind_at v (get_or ids i 0) = ap (λ l. get_or l i d) is ∙ get_or-map (kind_at v) ids i 0 d below in
    sym (told ∙ ap (λ o. option_map_or (λ n. kind_number n == kind_number k) o false) here ∙ of_kind (v.live (get_or ids i 0)))
  where
    of_kind : (o : Option Object) → option_map_or (λ n. kind_number n == kind_number k) (option_map (λ (o : Object). kind_of o.detail) o) false ≡ option_map_or (λ (o : Object). kind_number (kind_of o.detail) == kind_number k) o false
    of_kind None = refl
    of_kind (Some o) = refl

pub returns-in_err-write_at-clause-written : goal.returns-in_err-write_at-clause-written
returns-in_err-write_at-clause-written g c = λ es stored.
    let v = answers_in c.args.parts.now in
    let f = kept_at (g.P.Keep.kept c.args.keep.now) (record { answers = v; es = es }) in
    let p = is_live v c.args.kind in
    wrote_as (ap (λ ids. flat_map f (filter p ids)) c.requires.ids)
    (leads_out (flat_map f (filter p (drop (c.ids.at + 1) c.args.ids.now))) c.from_residual.result (c.ids.invariant.written es stored)
    (picked_next f p c.args.ids.now c.ids.at _ c.ids-test.true (found_live v c.args.kind c.args.ids.now c.args.found.now c.ids.at _ _ c.requires.found c.ids-test.true c.if-is_of.ensures)) (c.in_err-write_at.ensures.written es stored) c.from_residual.ensures.1)

pub ids-preserved : goal.ids-preserved
ids-preserved g c = elim c.if-is_of.branch [
  | then-is_of+in_ok-write_at w ↦ record {
    written = λ es stored.
        let v = answers_in c.args.parts.now in
        let f = kept_at (g.P.Keep.kept c.args.keep.now) (record { answers = v; es = es }) in
        let p = is_live v c.args.kind in
        rw w.sink-is
        (leads_on (flat_map f (filter p (drop (c.ids.at + 1) c.args.ids.now))) (c.ids.invariant.written es stored)
        (picked_next f p c.args.ids.now c.ids.at _ c.ids-test.true (found_live v c.args.kind c.args.ids.now c.args.found.now c.ids.at _ _ c.requires.found c.ids-test.true w.if-is_of.ensures)) (w.in_ok-write_at.ensures.written es stored));
    later = rw w.sink-is (omega (arith, c.ids.invariant.later, w.in_ok-write_at.ensures.counts.later));
  }
  | else-is_of w ↦ record {
    written = λ es stored.
        let v = answers_in c.args.parts.now in
        let f = kept_at (g.P.Keep.kept c.args.keep.now) (record { answers = v; es = es }) in
        let p = is_live v c.args.kind in
        rw w.sink-is
        (leads_as (flat_map f (filter p (drop (c.ids.at + 1) c.args.ids.now))) (c.ids.invariant.written es stored)
        (passed_next f p c.args.ids.now c.ids.at _ c.ids-test.true (found_live v c.args.kind c.args.ids.now c.args.found.now c.ids.at _ _ c.requires.found c.ids-test.true w.if-is_of.ensures)));
    later = rw w.sink-is c.ids.invariant.later;
  }
]

pub returns-clause-written : goal.returns-clause-written
returns-clause-written g c = λ es stored.
    let v = answers_in c.args.parts.now in
    let f = kept_at (g.P.Keep.kept c.args.keep.now) (record { answers = v; es = es }) in
    let p = is_live v c.args.kind in
    wrote_as (ap (λ ids. flat_map f (filter p ids)) c.requires.ids) (leads_end (c.ids.invariant.written es stored) (picked_over f p c.args.ids.now c.ids.at c.ids-test.false))
