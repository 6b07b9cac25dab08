use Rattle.std.proofs.Common.{◌≡◌, ◌⊎◌, ◌∙◌, ap, subst, sym, take}
use Rattle.gfx_text_grammar.specs.Listings.{read_header}
use Rattle.gfx_listing.proofs.HeadReading.{header_version}
use Rattle.gfx_listing.proofs.Parts.{refused, fault_stays}
use Rattle.gfx_listing.proofs.header.read_head.Goals as goal

pub returns-in-Ok-clause-version : goal.returns-in-Ok-clause-version
returns-in-Ok-clause-version c =
    let h = c.in-Ok.ensures in
    subst (λ m. (m ≡ 1) ⊎ (m ≡ 2)) (sym h.3) (header_version c.args.line.now h.0 h.1)

pub returns-in-Err-clause-bad : goal.returns-in-Err-clause-bad
returns-in-Err-clause-bad c =
    refused c.in-Err.fault (read_header c.args.line.now) c.args.out.now.items c.append_header.new.out.items c.in-Err.ensures

pub returns-in-Err-clause-err : goal.returns-in-Err-clause-err
returns-in-Err-clause-err c =
    c.truncate.ensures.items
    ∙ ap (λ n. take n c.append_header.new.out.items) (c.len-start.ensures ∙ c.args.out.now.ok.0)
    ∙ fault_stays c.in-Err.fault (read_header c.args.line.now) c.args.out.now.items c.append_header.new.out.items c.in-Err.ensures
