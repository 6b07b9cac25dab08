use Rattle.std.proofs.Common.{◌∙◌, ap, take}
use Rattle.gfx_text_grammar.specs.Lines.{read_line}
use Rattle.gfx_listing.proofs.Parts.{refused, fault_stays}
use Rattle.gfx_listing.proofs.blocks.read_line.Goals as goal

pub returns-in-Err-clause-bad : goal.returns-in-Err-clause-bad
returns-in-Err-clause-bad c =
    refused c.in-Err.fault (read_line c.args.minor c.args.line.now) c.args.out.now.items c.append_block.new.out.items c.in-Err.ensures

pub returns-in-Err-clause-err : goal.returns-in-Err-clause-err
returns-in-Err-clause-err c =
    c.truncate.ensures.items
    ∙ ap (λ n. take n c.append_block.new.out.items) (c.len-start.ensures ∙ c.args.out.now.ok.0)
    ∙ fault_stays c.in-Err.fault (read_line c.args.minor c.args.line.now) c.args.out.now.items c.append_block.new.out.items c.in-Err.ensures
