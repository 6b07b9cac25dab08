use Rattle.std.proofs.Common.{◌≡◌, ◌+◌, ◌-◌, take, ◌++◌, List, [], ◌∷◌, map, refl, None, length, sym, subst, ap, ◌∙◌, arith}
use Rattle.std.specs.Option.{unwrap_or}
use Rattle.std.specs.Vec.{vec_len}
use Rattle.std.proofs.Math.Seq.{take-append_seam}
use Rattle.std.specs.BTreeMap.{get}
use Rattle.gfx_script.specs.Keys.{key_cmp, key_of}
use Rattle.std.proofs.lemmas.List.{length-map, map-append}
use Rattle.gfx_script_model.specs.Scripts.{Defined}
use Rattle.gfx_script.specs.Numbered.{definition_of, place_of, PutsPlace}
use Rattle.gfx_script.proofs.NamePlaces.{place-new, place-old, places-stay, places-defined, taken-is}
use Rattle.gfx_script.proofs.names.Names.define.Goals as goal

pub invariant_of-self-then-found-place : goal.invariant_of-self-then-found-place
invariant_of-self-then-found-place c =
    let items = c.self.inside.defined.items in
    let places = c.self.inside.places in
    let at : c.len-place.result ≡ length items = omega (arith, c.len-place.ensures, c.self.inside.defined.ok) in
    let found : c.in-Ok.found ≡ unwrap_or (place_of places c.args.name.now) (length items) =
    c.in-Ok.ensures.found ∙ (λ i. unwrap_or (get key_cmp places (c.of.ensures i)) (at i)) in
    let same : c.in-Ok.found ≡ length items = omega (arith, c.if-found-place.true, at) in
    let none = place-new items places c.args.name.now c.self.invariant c.requires c.in-Ok.found found same in
    let puts = subst (λ n. PutsPlace (key_of c.args.name.now) n places c.place_or.new.places) same (subst (λ k. PutsPlace k c.in-Ok.found places c.place_or.new.places) c.of.ensures c.in-Ok.ensures.puts) in
    rw c.in_ok-push.ensures.items
    (places-defined items places c.args.name.now c.self.invariant c.requires c.place_or.new.places
    (record { name = c.args.name; phase = c.args.phase; thread = c.args.thread }) refl none puts)

pub returns-then-found-place-clause-defines : goal.returns-then-found-place-clause-defines
returns-then-found-place-clause-defines c =
    let items = c.self.inside.defined.items in
    let places = c.self.inside.places in
    let at : c.len-place.result ≡ length items = omega (arith, c.len-place.ensures, c.self.inside.defined.ok) in
    let found : c.in-Ok.found ≡ unwrap_or (place_of places c.args.name.now) (length items) =
    c.in-Ok.ensures.found ∙ (λ i. unwrap_or (get key_cmp places (c.of.ensures i)) (at i)) in
    let same : c.in-Ok.found ≡ length items = omega (arith, c.if-found-place.true, at) in
    let none = place-new items places c.args.name.now c.self.invariant c.requires c.in-Ok.found found same in (
      taken-is items places c.args.name.now c.self.invariant c.requires c.args.self.now None c.self.view_is none,
      ap (map definition_of) c.in_ok-push.ensures.items ∙ map-append definition_of items (record { name = c.args.name; phase = c.args.phase; thread = c.args.thread } ∷ [])
          ∙ ap (λ (z : List Defined). z ++ (record { name = c.args.name.now; phase = c.args.phase; thread = c.args.thread }) ∷ []) c.self.view_is,
      ap (λ n. n + 1) (at ∙ sym (length-map items definition_of) ∙ ap length c.self.view_is),
    )

pub invariant_of-self-in-Ok : goal.invariant_of-self-in-Ok
invariant_of-self-in-Ok c =
    let items = c.self.inside.defined.items in
    let places = c.self.inside.places in
    let at : c.len-place.result ≡ length items = omega (arith, c.len-place.ensures, c.self.inside.defined.ok) in
    let found : c.in-Ok.found ≡ unwrap_or (place_of places c.args.name.now) (length items) =
    c.in-Ok.ensures.found ∙ (λ i. unwrap_or (get key_cmp places (c.of.ensures i)) (at i)) in
    let old = place-old items places c.args.name.now c.self.invariant c.requires c.in-Ok.found found (λ e. c.if-found-place.false (e ∙ sym at)) in
    let puts = subst (λ k. PutsPlace k c.in-Ok.found places c.place_or.new.places) c.of.ensures c.in-Ok.ensures.puts in
    let few : vec_len c.push.new.self - 1 ≡ length items = omega (arith, c.in_ok-push.ensures.len, c.self.inside.defined.ok) in
    let back : c.pop.new.self.items ≡ items =
    c.pop.ensures.rest ∙ (λ i. take (few i) (c.in_ok-push.ensures.items i)) ∙ take-append_seam items (record { name = c.args.name; phase = c.args.phase; thread = c.args.thread } ∷ []) in
    rw back (places-stay items places c.args.name.now c.self.invariant c.requires c.place_or.new.places c.in-Ok.found old puts)
