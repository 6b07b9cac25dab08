use Rattle.std.proofs.Common.{◌==◌, refl, ap, sym, ◌∙◌, arith}
use Rattle.std.specs.List.{before_first, after_first}
use Rattle.std.proofs.lemmas.Fmt.{decimal_injective}
use Rattle.gfx_words.proofs.Ranges.{range_cut, not_whole}
use Rattle.gfx_words.proofs.range.FrameRange.of.Goals as goal

pub returns-in_err-first-clause-none : goal.returns-in_err-first-clause-none
returns-in_err-first-clause-none c e r fits is =
    not_whole c.args.text.now r fits is (c.in_err-first.ensures.byte (omega arith) (λ w o found. found))

pub returns-in_err-first-2-clause-none : goal.returns-in_err-first-2-clause-none
returns-in_err-first-2-clause-none c e r fits is =
    let cut = range_cut r fits in
    let parts = c.in_ok-first.ensures.byte (omega arith) (λ w o found. found) in
    c.in_err-first-2.ensures.none refl r.first fits.first (parts.0 ∙ ap (before_first (λ b. b == 45)) is ∙ cut.front_is)

pub returns-in_err-last-clause-none : goal.returns-in_err-last-clause-none
returns-in_err-last-clause-none c e r fits is =
    let cut = range_cut r fits in
    let parts = c.in_ok-first.ensures.byte (omega arith) (λ w o found. found) in
    c.in_err-last.ensures.none refl r.last fits.last (parts.1 ∙ ap (after_first (λ b. b == 45)) is ∙ cut.back_is)

pub returns-else-first-last-clause-none : goal.returns-else-first-last-clause-none
returns-else-first-last-clause-none c e r fits is =
    let cut = range_cut r fits in
    let parts = c.in_ok-first.ensures.byte (omega arith) (λ w o found. found) in
    let first = decimal_injective c.in_ok-first-2.first r.first c.in_ok-first-2.ensures.small fits.first (sym c.in_ok-first-2.ensures.some ∙ parts.0 ∙ ap (before_first (λ b. b == 45)) is ∙ cut.front_is) in
    let last = decimal_injective c.in_ok-last.last r.last c.in_ok-last.ensures.small fits.last (sym c.in_ok-last.ensures.some ∙ parts.1 ∙ ap (after_first (λ b. b == 45)) is ∙ cut.back_is) in
    let ordered = fits.ordered in
    let above = c.if-first-last.false in
    omega arith
