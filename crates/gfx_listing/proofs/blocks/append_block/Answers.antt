use Rattle.std.proofs.Common.{◌∙◌, ap, map}
use Rattle.gfx_grammar.specs.Framing.{Part}
use Rattle.gfx_text_grammar.specs.Lines.{read_line}
use Rattle.gfx_listing.specs.Lines.{part_of_tokens}
use Rattle.gfx_listing.proofs.Dispatch.{many_tokens, line_by_tokens}
use Rattle.gfx_listing.proofs.Parts.{all_stays, along_read, wants}
use Rattle.gfx_listing.proofs.blocks.append_block.Goals as goal

pub returns-in_err-tokens : goal.returns-in_err-tokens
returns-in_err-tokens c =
    wants c.from_residual.result (read_line c.args.minor c.args.line.now) (λ (p : Part). p.bytes) c.args.out.now.items c.args.out.now.items c.from_residual.ensures.1
    (all_stays c.args.out.now.items)

pub returns-in_default : goal.returns-in_default
returns-in_default c =
    (many_tokens c.args.minor c.args.line.now (rw c.in_default.is at c.in_ok-tokens.ensures), all_stays c.args.out.now.items)

pub returns : goal.returns
returns c =
    let h = rw c.in-Some.is at c.in_ok-tokens.ensures in
    let tokens = map (λ t. t.now) c.deref.result.now in
    along_read c.read_tokens.result (read_line c.args.minor c.args.line.now) (part_of_tokens c.args.minor tokens) (λ (p : Part). p.bytes) c.args.out.now.items c.read_tokens.new.out.items
    (line_by_tokens c.args.minor c.args.line.now tokens (ap (map (λ t. t.now)) c.deref.ensures.value ∙ h.0)) c.read_tokens.ensures
