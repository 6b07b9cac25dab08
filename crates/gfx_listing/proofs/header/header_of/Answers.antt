use Rattle.std.proofs.Common.{◌≡◌, ◌≤◌, ◌-◌, None, length, map, take, drop, sym, ap, ◌∙◌, arith}
use Rattle.std.proofs.lemmas.List.{length-map}
use Rattle.gfx_model.specs.Blocks.{header_fault, minor_of}
use Rattle.gfx_grammar.specs.Reading.{◌>>=◌}
use Rattle.gfx_text_grammar.specs.Listings.{header_with, good_header}
use Rattle.gfx_listing.proofs.HeadReading.{options_count, header_is, header_seen, good_is, bad_is}
use Rattle.gfx_listing.proofs.Parts.{old_stays}
use Rattle.gfx_listing.proofs.header.header_of.Goals as goal

pub returns-in-Ok : goal.returns-in-Ok
returns-in-Ok c =
    let old = c.args.out.now.items in
    let held = c.deref.result.now in
    let texts = map (λ t. t.now) c.args.options.now in
    let w = c.in_ok-append_options.ensures in
    let long = options_count texts w.0 w.1 ∙ length-map c.args.options.now (λ t. t.now) in
    let bytes = header_with c.args.minor w.0 in
    let grown = header_is c.args.minor _ w.0 old c.begin_header.new.out.items c.append_options.new.out.items long c.in_ok-begin_header.ensures.ok w.2 in
    let seen : take (length held - c.len-start.result) (drop c.len-start.result held) ≡ bytes =
    header_seen old bytes held c.len-start.result (c.deref.ensures.value ∙ grown) (c.len-start.ensures ∙ c.args.out.now.ok.0) in
    let few : length w.0 ≤ 16 = omega (arith, long, c.requires) in
    let good : header_fault bytes ≡ None = ap header_fault (sym seen) ∙ c.in-Ok.ensures.good.0 in
    (bytes, ap (λ o. o >>= good_header c.args.minor) w.1 ∙ good_is c.args.minor w.0 few good, grown, c.in-Ok.ensures.good.1 ∙ ap minor_of seen)

pub returns-in-Err : goal.returns-in-Err
returns-in-Err c =
    let old = c.args.out.now.items in
    let held = c.deref.result.now in
    let texts = map (λ t. t.now) c.args.options.now in
    let w = c.in_ok-append_options.ensures in
    let long = options_count texts w.0 w.1 ∙ length-map c.args.options.now (λ t. t.now) in
    let bytes = header_with c.args.minor w.0 in
    let grown = header_is c.args.minor _ w.0 old c.begin_header.new.out.items c.append_options.new.out.items long c.in_ok-begin_header.ensures.ok w.2 in
    let seen : take (length held - c.len-start.result) (drop c.len-start.result held) ≡ bytes =
    header_seen old bytes held c.len-start.result (c.deref.ensures.value ∙ grown) (c.len-start.ensures ∙ c.args.out.now.ok.0) in (
      ap (λ o. o >>= good_header c.args.minor) w.1 ∙ bad_is c.args.minor w.0 _ (ap header_fault (sym seen) ∙ c.in-Err.ensures.fault),
      old_stays old bytes c.append_options.new.out.items grown,
    )
