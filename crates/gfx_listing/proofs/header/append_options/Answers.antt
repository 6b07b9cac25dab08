use Rattle.std.proofs.Common.{◌<◌, ◌≤◌, Err, List, ℕ, [], ◌∷◌, ◌++◌, length, map, sym, ap, subst, ◌∙◌, append-nil, arith}
use Rattle.std.proofs.lemmas.List.{length-map}
use Rattle.std.proofs.lemmas.Result.{err_from_is_err_and}
use Rattle.gfx_text_grammar.specs.FieldReading.{whole}
use Rattle.gfx_text_grammar.specs.Listings.{read_pair}
use Rattle.gfx_listing.specs.Answers.{Refuses}
use Rattle.gfx_listing.proofs.Cuts.{text-at}
use Rattle.gfx_listing.proofs.HeadReading.{options_start, options_fail, options_grow, options_go_on, options_end}
use Rattle.gfx_listing.proofs.header.append_options.Goals as goal

pub options-init : goal.options-init
options-init c = ([], sym (append-nil c.args.out.now.items), options_start (map (λ t. t.now) c.args.options.now))

pub returns-in_err-append_option : goal.returns-in_err-append_option
returns-in_err-append_option c =
    let p = err_from_is_err_and c.from_residual.result c.from_residual.ensures.1 in
    let so_far = c.options.invariant in
    let i = c.options.option-index in
    let texts = map (λ t. t.now) c.args.options.now in
    let there : i < length texts = omega (arith, c.options-test.true, length-map c.args.options.now (λ t. t.now)) in
    let fault = c.in_err-append_option.field-0.0 in
    let text = text-at (λ t. t.now) c.args.options.now i (record { ref_ptr = (0, 0); now = [] }) c.options-test.true in
    options_fail c.from_residual.result fault so_far.0 texts i c.args.out.now.items c.options.out.items c.append_option.new.out.items (p.1 ∙ ap Err p.2) there so_far.1 so_far.2
    (subst (λ (t : List ℕ). Refuses fault (whole read_pair t) c.options.out.items c.append_option.new.out.items) (sym text) c.in_err-append_option.ensures)

pub options-preserved : goal.options-preserved
options-preserved c =
    let so_far = c.options.invariant in
    let i = c.options.option-index in
    let texts = map (λ t. t.now) c.args.options.now in
    let there : i < length texts = omega (arith, c.options-test.true, length-map c.args.options.now (λ t. t.now)) in
    let w = c.in_ok-append_option.ensures in (
      so_far.0 ++ w.0 ∷ [],
      options_grow so_far.0 w.0 c.args.out.now.items c.options.out.items c.append_option.new.out.items so_far.1 w.2,
      options_go_on so_far.0 texts i w.0 there (ap (whole read_pair) (text-at (λ t. t.now) c.args.options.now i _ c.options-test.true) ∙ w.1) so_far.2,
    )

pub returns : goal.returns
returns c =
    let so_far = c.options.invariant in
    let texts = map (λ t. t.now) c.args.options.now in
    let all : length texts ≤ c.options.option-index = omega (arith, c.options-test.false, length-map c.args.options.now (λ t. t.now)) in
    (so_far.0, options_end so_far.0 texts c.options.option-index all so_far.2, so_far.1)
