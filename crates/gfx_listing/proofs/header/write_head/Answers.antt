use Rattle.std.proofs.Common.{◌≡◌, ℕ, List, ◌++◌, ap, ◌∙◌, append_assoc, rules}
use Rattle.std.specs.Prelude.{codes, decimal}
use Rattle.std.proofs.lemmas.Result.{on_ok_weaker}
use Rattle.gfx_model.specs.Blocks.{minor_of, option_count}
use Rattle.gfx_feature_model.specs.Listing.{option_texts}
use Rattle.gfx_text_writer.specs.Shown.{behind_spaces}
use Rattle.gfx_text_writer.proofs.Grown.{err_stays}
use Rattle.gfx_listing.proofs.Heads.{head_grown}
use Rattle.gfx_listing.proofs.header.write_head.Goals as goal

pub returns-clause-ok : goal.returns-clause-ok
returns-clause-ok c =
    let header = c.args.header.now in
    let before = c.args.out.now.items in
    let options = behind_spaces (option_texts header 16 (option_count header)) in
    let number : c.from.result ≡ minor_of header = search rules in
    let front : c.put_number.new.out.items ≡ (before ++ codes "gfxr 1000.") ++ decimal (minor_of header) =
    c.in_ok-put_number.ensures.ok
    ∙ ap (λ (z : List ℕ). z ++ decimal c.from.result) c.in_ok-extend_from_slice.ensures.items
    ∙ ap (λ k. (before ++ codes "gfxr 1000.") ++ decimal k) number in
    on_ok_weaker c.write_options.result (λ (h : c.write_options.new.out.items ≡ c.put_number.new.out.items ++ options).
    h ∙ ap (λ (z : List ℕ). z ++ options) front ∙ head_grown header before) c.write_options.ensures.ok

pub returns-clause-err : goal.returns-clause-err
returns-clause-err c =
    let before = c.args.out.now.items in
    let more = codes "gfxr 1000." ++ decimal c.from.result in
    let grown : c.put_number.new.out.items ≡ before ++ more =
    c.in_ok-put_number.ensures.ok
    ∙ ap (λ (z : List ℕ). z ++ decimal c.from.result) c.in_ok-extend_from_slice.ensures.items
    ∙ append_assoc before (codes "gfxr 1000.") (decimal c.from.result) in
    err_stays c.write_options.result before c.put_number.new.out.items more c.write_options.new.out.items grown c.write_options.ensures.err
