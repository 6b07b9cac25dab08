use Rattle.std.proofs.Common.{◌≡◌, ℕ, zero, suc, ◌<◌, ◌+◌, get_or, List, [], ◌∷◌, map, length, true, refl, sym, subst, arith, ◌∙◌}
use Rattle.std.proofs.lemmas.List.{length-map}
use Rattle.std.proofs.lemmas.Result.{err_from_is_err_and}
use Rattle.std.specs.List.{list_all}
use Rattle.std.proofs.lemmas.Bool.{and_parts}
use Rattle.gfx_script_model.specs.Names.{is_name}
use Rattle.gfx_script.specs.Numbered.{is_taken}
use Rattle.gfx_script.proofs.NamePlaces.{so_far_goes_on, so_far_clashes, text-at}
use Rattle.gfx_script.proofs.words.define_all.Goals as goal

named-at : (texts : List (List ℕ)) (i : ℕ) → i < length texts → list_all is_name texts ≡ true → is_name (get_or texts i []) ≡ true
named-at [] i l h = absurd (omega (arith, l))
named-at (t ∷ ts) zero l h = (and_parts (is_name t) (list_all is_name ts) h).0
named-at (t ∷ ts) (suc i) l h = named-at ts i (omega (arith, l)) (and_parts (is_name t) (list_all is_name ts) h).1

pub define-requires : goal.define-requires
define-requires c =
    let texts = map (λ t. t.now) c.args.words.now in
    let few : c.words.word-index < length texts = omega (arith, c.words-test.true, length-map c.args.words.now (λ t. t.now)) in
    subst (λ z. is_name z ≡ true) (text-at c.args.words.now c.words.word-index _ c.words-test.true) (named-at texts c.words.word-index few c.requires)

pub returns-in-None : goal.returns-in-None
returns-in-None c =
    let h = rw c.in-None.is at c.in_ok-number.ensures.defines in
    let texts = map (λ t. t.now) c.args.words.now in
    let few : c.words.word-index < length texts = omega (arith, c.words-test.true, length-map c.args.words.now (λ t. t.now)) in (
      refl,
      so_far_clashes c.args.phase c.args.thread c.args.names.now c.words.names texts c.words.word-index c.words.numbers.items few c.words.invariant
          (subst (λ z. is_taken c.words.names z ≡ true) (sym (text-at c.args.words.now c.words.word-index _ c.words-test.true)) h.0),
      (c.words.word-index, omega (arith, few), h.1 ∙ c.words.invariant.names),
    )

pub words-preserved : goal.words-preserved
words-preserved c =
    let h = rw c.in-Some.is at c.in_ok-number.ensures.defines in
    let texts = map (λ t. t.now) c.args.words.now in
    let few : c.words.word-index < length texts = omega (arith, c.words-test.true, length-map c.args.words.now (λ t. t.now)) in
    rw c.in_ok-push-in-Some.ensures.items
    (so_far_goes_on c.args.phase c.args.thread c.args.names.now c.words.names c.define.new.self texts c.words.word-index c.words.numbers.items c.in-Some.number _ few
    (sym (text-at c.args.words.now c.words.word-index _ c.words-test.true)) c.words.invariant h.0 h.1 h.2)

pub returns-in_err-push-in-Some : goal.returns-in_err-push-in-Some
returns-in_err-push-in-Some c =
    let h = rw c.in-Some.is at c.in_ok-number.ensures.defines in
    let texts = map (λ t. t.now) c.args.words.now in
    let few : c.words.word-index < length texts = omega (arith, c.words-test.true, length-map c.args.words.now (λ t. t.now)) in
    let more = so_far_goes_on c.args.phase c.args.thread c.args.names.now c.words.names c.define.new.self texts c.words.word-index c.words.numbers.items c.in-Some.number _ few
    (sym (text-at c.args.words.now c.words.word-index _ c.words-test.true)) c.words.invariant h.0 h.1 h.2 in
    let p = err_from_is_err_and c.from_residual-in_err-push-in-Some.result c.from_residual-in_err-push-in-Some.ensures.1 in
    rw (p.1, p.2) (c.words.word-index + 1, omega (arith, few), more.names)
