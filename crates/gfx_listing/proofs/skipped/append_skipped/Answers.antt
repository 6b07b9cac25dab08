use Rattle.std.proofs.Common.{Err, ap, ◌∙◌}
use Rattle.std.proofs.lemmas.Result.{err_from_is_err_and}
use Rattle.gfx_grammar.specs.Framing.{Part}
use Rattle.gfx_listing.proofs.Parts.{wants, skipped_breaks, skipped_ends}
use Rattle.gfx_listing.proofs.skipped.append_skipped.Goals as goal

pub returns-in_err-begin_skipped : goal.returns-in_err-begin_skipped
returns-in_err-begin_skipped c =
    wants c.from_residual.result _ (λ (p : Part). p.bytes) c.args.out.now.items c.begin_skipped.new.out.items c.from_residual.ensures.1 c.in_err-begin_skipped.ensures.err

pub returns-in_err-append_bytes : goal.returns-in_err-append_bytes
returns-in_err-append_bytes c =
    let p = err_from_is_err_and c.from_residual-in_err-append_bytes.result c.from_residual-in_err-append_bytes.ensures.1 in
    skipped_breaks c.args.kind c.args.digits.now c.args.out.now.items c.begin_skipped.new.out.items c.append_bytes.new.out.items c.from_residual-in_err-append_bytes.result _
    (p.1 ∙ ap Err p.2) c.in_ok-begin_skipped.ensures.ok c.in_err-append_bytes.ensures

pub returns : goal.returns
returns c =
    skipped_ends c.args.kind c.len-start.result c.args.digits.now c.end_block.result c.args.out.now.items c.begin_skipped.new.out.items c.append_bytes.new.out.items c.end_block.new.out.items
    (c.len-start.ensures ∙ c.args.out.now.ok.0) c.in_ok-begin_skipped.ensures.ok c.in_ok-append_bytes.ensures
    c.end_block.ensures.small c.end_block.ensures.sized c.end_block.ensures.bad c.end_block.ensures.unchanged
