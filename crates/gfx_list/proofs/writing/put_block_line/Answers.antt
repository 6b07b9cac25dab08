use Rattle.std.proofs.Common.{◌≡◌, ◌++◌, ◌∷◌, [], List, ℕ, length, take, ap, sym, ◌∙◌, arith, append_assoc, length-append, take_at}
use Rattle.std.proofs.lemmas.Result.{on_err_weaker, on_ok_weaker}
use Rattle.gfx_blocks.specs.Payloads.{content_of}
use Rattle.gfx_feature_model.specs.Listing.{block_text}
use Rattle.gfx_list.proofs.writing.put_block_line.Goals as goal

pub end_line-requires : goal.end_line-requires
end_line-requires c =
    let text = block_text c.args.minor c.args.raw.now.bytes.now (content_of c.args.raw.now.block) in
    omega (arith, ap length c.in_ok-put_line.ensures.ok, length-append c.args.text.now.items text, c.len-front.ensures, c.args.text.now.ok.0)

pub returns-clause-ok : goal.returns-clause-ok
returns-clause-ok c =
    let text = block_text c.args.minor c.args.raw.now.bytes.now (content_of c.args.raw.now.block) in
    let old = c.args.text.now.items in
    on_ok_weaker c.end_line.result (λ more. more ∙ ap (λ (xs : List ℕ). xs ++ (10 ∷ [])) c.in_ok-put_line.ensures.ok ∙ append_assoc old text (10 ∷ [])) c.end_line.ensures.ok

pub returns-clause-err : goal.returns-clause-err
returns-clause-err c =
    let text = block_text c.args.minor c.args.raw.now.bytes.now (content_of c.args.raw.now.block) in
    let old = c.args.text.now.items in
    let front = c.len-front.result in
    let long : front ≡ length old = c.len-front.ensures ∙ c.args.text.now.ok.0 in
    on_err_weaker c.end_line.result (λ kept. kept ∙ ap (take front) c.in_ok-put_line.ensures.ok ∙ take_at old text front (sym long)) c.end_line.ensures.err
