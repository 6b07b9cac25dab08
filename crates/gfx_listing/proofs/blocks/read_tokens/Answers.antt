use Rattle.std.proofs.Common.{map, sym, ap, ◌∙◌, arith}
use Rattle.std.proofs.lemmas.List.{length-map}
use Rattle.gfx_grammar.specs.Framing.{Part}
use Rattle.gfx_text_grammar.specs.Lines.{read_threaded}
use Rattle.gfx_listing.specs.Lines.{part_of_tokens}
use Rattle.gfx_listing.proofs.Cuts.{first_at}
use Rattle.gfx_listing.proofs.Dispatch.{no_tokens, skipped_first, marker_first, threaded_last}
use Rattle.gfx_listing.proofs.Parts.{all_stays, along_read}
use Rattle.gfx_listing.proofs.blocks.read_tokens.Goals as goal

pub returns-in_default : goal.returns-in_default
returns-in_default c = (
  no_tokens c.args.minor (map (λ t. t.now) c.args.tokens.now) (omega (arith, c.in_default.len_below, length-map c.args.tokens.now (λ t. t.now))),
  all_stays c.args.out.now.items,
)

pub returns-in-Some : goal.returns-in-Some
returns-in-Some c =
    let tokens = map (λ t. t.now) c.args.tokens.now in
    along_read c.read_skipped.result (part_of_tokens c.args.minor tokens) _ (λ (p : Part). p.bytes) c.args.out.now.items c.read_skipped.new.out.items
    (ap (part_of_tokens c.args.minor) (first_at (λ t. t.now) c.args.tokens.now _ c.in-len1-up.len_at_least) ∙ skipped_first c.args.minor c.in-Some.kind _ _ (sym c.in-Some.ensures))
    (c.read_skipped.ensures _ (sym c.in-Some.ensures))

pub returns-in-Some-begins_section : goal.returns-in-Some-begins_section
returns-in-Some-begins_section c =
    let tokens = map (λ t. t.now) c.args.tokens.now in
    along_read c.read_marker.result (part_of_tokens c.args.minor tokens) _ (λ (p : Part). p.bytes) c.args.out.now.items c.read_marker.new.out.items
    (ap (part_of_tokens c.args.minor) (first_at (λ t. t.now) c.args.tokens.now _ c.in-len1-up.len_at_least)
    ∙ marker_first c.args.minor c.in-Some-begins_section.begin _ _ (sym c.in-Some-begins_section.ensures))
    c.read_marker.ensures

pub returns-in-None : goal.returns-in-None
returns-in-None c =
    let tokens = map (λ t. t.now) c.args.tokens.now in
    let first = first_at (λ t. t.now) c.args.tokens.now _ c.in-len1-up.len_at_least in
    along_read c.read_threaded.result (part_of_tokens c.args.minor tokens) (read_threaded c.args.minor tokens) (λ (p : Part). p.bytes) c.args.out.now.items c.read_threaded.new.out.items
    (ap (part_of_tokens c.args.minor) first
    ∙ threaded_last c.args.minor _ _ (sym c.skipped_kind.ensures ∙ c.in_default-skipped_kind.is) (sym c.in-None.ensures)
    ∙ ap (read_threaded c.args.minor) (sym first))
    c.read_threaded.ensures
