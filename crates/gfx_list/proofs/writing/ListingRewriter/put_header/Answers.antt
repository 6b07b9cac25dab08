use Rattle.std.proofs.Common.{◌≡◌, ◌+◌, ◌*◌, ◌++◌, ◌∷◌, [], List, ℕ, length, take, ap, sym, ◌∙◌, arith, append_assoc, length-append, take_at}
use Rattle.std.proofs.lemmas.Result.{on_err_weaker, on_ok_weaker}
use Rattle.gfx_feature_model.specs.Listing.{header_text}
use Rattle.gfx_list.proofs.writing.ListingRewriter.put_header.Goals as goal

pub put_head-requires : goal.put_head-requires
put_head-requires c = c.requires.header.good

pub end_line-requires : goal.end_line-requires
end_line-requires c =
    let text = header_text (take (16 + 8 * c.args.header.options) c.args.bytes.now) in
    omega (arith, ap length c.in_ok-put_head.ensures.ok, length-append c.args.out.now.items text, c.len-front.ensures, c.args.out.now.ok.0)

pub returns-clause-ok : goal.returns-clause-ok
returns-clause-ok c =
    let text = header_text (take (16 + 8 * c.args.header.options) c.args.bytes.now) in
    let old = c.args.out.now.items in
    on_ok_weaker c.end_line.result (λ more. more ∙ ap (λ (xs : List ℕ). xs ++ (10 ∷ [])) c.in_ok-put_head.ensures.ok ∙ append_assoc old text (10 ∷ [])) c.end_line.ensures.ok

pub returns-clause-err : goal.returns-clause-err
returns-clause-err c =
    let text = header_text (take (16 + 8 * c.args.header.options) c.args.bytes.now) in
    let old = c.args.out.now.items in
    let front = c.len-front.result in
    let long : front ≡ length old = c.len-front.ensures ∙ c.args.out.now.ok.0 in
    on_err_weaker c.end_line.result (λ kept. kept ∙ ap (take front) c.in_ok-put_head.ensures.ok ∙ take_at old text front (sym long)) c.end_line.ensures.err
