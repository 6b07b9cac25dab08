use Rattle.std.proofs.Common.{◌≡◌, Some, sym, ap, ◌∙◌, arith}
use Rattle.std.specs.Option.{option_copied}
use Rattle.gfx_script.specs.Keys.{key_cmp}
use Rattle.std.specs.BTreeMap.{get}
use Rattle.gfx_script.specs.Numbered.{place_of}
use Rattle.gfx_script.proofs.NamePlaces.{number-found, place-few}
use Rattle.gfx_script.proofs.names.Names.number.Goals as goal

pub index-requires : goal.index-requires
index-requires c =
    let at : place_of c.self.inside.places c.args.name.now ≡ Some c.in_ok-place.field-0.now =
    ap (get key_cmp c.self.inside.places) (sym c.of.ensures) ∙ sym c.get.ensures.value ∙ ap option_copied c.in_ok-place.was in
    omega (arith, place-few c.self.inside.defined.items c.self.inside.places c.args.name.now c.self.invariant c.requires c.in_ok-place.field-0.now at, c.self.inside.defined.ok)

pub overflow_add-result : goal.overflow_add-result
overflow_add-result c =
    let at : place_of c.self.inside.places c.args.name.now ≡ Some c.in_ok-place.field-0.now =
    ap (get key_cmp c.self.inside.places) (sym c.of.ensures) ∙ sym c.get.ensures.value ∙ ap option_copied c.in_ok-place.was in
    omega (arith, place-few c.self.inside.defined.items c.self.inside.places c.args.name.now c.self.invariant c.requires c.in_ok-place.field-0.now at, c.self.inside.defined.small)

pub returns-then-is_within : goal.returns-then-is_within
returns-then-is_within c =
    let at : place_of c.self.inside.places c.args.name.now ≡ Some c.in_ok-place.field-0.now =
    ap (get key_cmp c.self.inside.places) (sym c.of.ensures) ∙ sym c.get.ensures.value ∙ ap option_copied c.in_ok-place.was in
    sym (number-found c.self.inside.defined.items c.self.inside.places c.args.name.now c.self.invariant c.requires c.args.phase c.args.thread c.args.self.now c.in_ok-place.field-0.now
    c.index.result.now _ c.self.view_is at c.index.ensures (sym c.if-is_within.true ∙ c.is_within.ensures))

pub returns-else-is_within : goal.returns-else-is_within
returns-else-is_within c =
    let at : place_of c.self.inside.places c.args.name.now ≡ Some c.in_ok-place.field-0.now =
    ap (get key_cmp c.self.inside.places) (sym c.of.ensures) ∙ sym c.get.ensures.value ∙ ap option_copied c.in_ok-place.was in
    sym (number-found c.self.inside.defined.items c.self.inside.places c.args.name.now c.self.invariant c.requires c.args.phase c.args.thread c.args.self.now c.in_ok-place.field-0.now
    c.index.result.now _ c.self.view_is at c.index.ensures (sym c.if-is_within.false ∙ c.is_within.ensures))
