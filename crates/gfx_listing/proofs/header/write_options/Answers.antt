use Rattle.std.proofs.Common.{ℕ, ◌+◌, ◌*◌, List, ◌∷◌, ◌++◌, ap, ◌∙◌}
use Rattle.std.proofs.lemmas.Result.{err_from_is_err_and}
use Rattle.gfx_feature_model.specs.Listing.{option_texts}
use Rattle.gfx_text_writer.proofs.Grown.{front_stays}
use Rattle.gfx_text_writer.specs.Shown.{behind_spaces}
use Rattle.gfx_listing.specs.Lines.{option_text}
use Rattle.gfx_listing.proofs.Heads.{options_grown}
use Rattle.gfx_listing.proofs.header.write_options.Goals as goal

pub returns-in_err-write_option-clause-err : goal.returns-in_err-write_option-clause-err
returns-in_err-write_option-clause-err c =
    let p = err_from_is_err_and c.from_residual.result c.from_residual.ensures.1 in
    let before = behind_spaces (option_texts c.args.header.now 16 c.options.index) in
    rw p.1 (front_stays c.args.out.now.items c.options.out.items before c.write_option.new.out.items c.options.invariant c.in_err-write_option.ensures.err)

pub options-preserved : goal.options-preserved
options-preserved c =
    c.in_ok-write_option.ensures.ok
    ∙ ap (λ (z : List ℕ). z ++ (32 ∷ option_text c.args.header.now (16 + 8 * c.options.index))) c.options.invariant
    ∙ options_grown c.args.header.now c.args.out.now.items c.options.index
