use Rattle.std.proofs.Common.{◌∙◌, ap, map}
use Rattle.gfx_text_grammar.specs.Listings.{read_header, header_of_tokens}
use Rattle.gfx_listing.proofs.HeadReading.{many_tokens, header_by_tokens, along_header, wants_header}
use Rattle.gfx_listing.proofs.Parts.{all_stays}
use Rattle.gfx_listing.proofs.header.append_header.Goals as goal

pub returns-in_err-tokens : goal.returns-in_err-tokens
returns-in_err-tokens c =
    wants_header c.from_residual.result (read_header c.args.line.now) c.args.out.now.items c.args.out.now.items c.from_residual.ensures.1 (all_stays c.args.out.now.items)

pub returns-in_default : goal.returns-in_default
returns-in_default c = (many_tokens c.args.line.now (rw c.in_default.is at c.in_ok-tokens.ensures), all_stays c.args.out.now.items)

pub returns : goal.returns
returns c =
    let h = rw c.in-Some.is at c.in_ok-tokens.ensures in
    let tokens = map (λ t. t.now) c.deref.result.now in
    along_header c.header_of_tokens.result (read_header c.args.line.now) (header_of_tokens tokens) c.args.out.now.items c.header_of_tokens.new.out.items
    (header_by_tokens c.args.line.now tokens (ap (map (λ t. t.now)) c.deref.ensures.value ∙ h.0)) c.header_of_tokens.ensures
