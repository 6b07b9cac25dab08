use Rattle.std.proofs.Common.{sym, ◌∙◌}
use Rattle.gfx_listing.proofs.Cuts.{no_equals, pair_no_key, pair_no_value, pair_both}
use Rattle.gfx_listing.proofs.header.option_of.Goals as goal

pub returns-in_err-key : goal.returns-in_err-key
returns-in_err-key c = rw c.from_residual.ensures (sym (no_equals c.args.text.now c.in_err-key.ensures))

pub returns-in_err-short_number_of : goal.returns-in_err-short_number_of
returns-in_err-short_number_of c =
    let h = c.in_ok-key.ensures in
    rw c.from_residual-in_err-short_number_of.ensures (sym (pair_no_key c.args.text.now c.in_ok-key.key.now c.in_ok-key.value.now h.0 h.1
    (sym c.short_number_of.ensures ∙ c.in_err-short_number_of.was)))

pub returns-in_err-short_number_of-2 : goal.returns-in_err-short_number_of-2
returns-in_err-short_number_of-2 c =
    let h = c.in_ok-key.ensures in
    rw c.from_residual-in_err-short_number_of-2.ensures (sym (pair_no_value c.args.text.now c.in_ok-key.key.now c.in_ok-key.value.now _ h.0 h.1
    (sym c.short_number_of.ensures ∙ c.in_ok-short_number_of.was) (sym c.short_number_of-2.ensures ∙ c.in_err-short_number_of-2.was)))

pub returns : goal.returns
returns c =
    let h = c.in_ok-key.ensures in
    sym (pair_both c.args.text.now c.in_ok-key.key.now c.in_ok-key.value.now _ _ h.0 h.1
    (sym c.short_number_of.ensures ∙ c.in_ok-short_number_of.was) (sym c.short_number_of-2.ensures ∙ c.in_ok-short_number_of-2.was))
