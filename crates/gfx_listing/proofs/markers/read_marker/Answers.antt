use Rattle.std.proofs.Common.{List, ◌∷◌, ℕ, map, sym, ap, ◌∙◌, arith}
use Rattle.std.proofs.lemmas.List.{length-map}
use Rattle.gfx_text_grammar.specs.Lines.{read_marker}
use Rattle.gfx_listing.specs.Lines.{marker_name}
use Rattle.gfx_listing.proofs.Cuts.{single}
use Rattle.gfx_listing.proofs.Dispatch.{marker_fields, marker_read, marker_bad, frame_small}
use Rattle.gfx_listing.proofs.Parts.{all_stays, marker_writes, marker_written}
use Rattle.gfx_listing.proofs.markers.read_marker.Goals as goal

pub returns-in_default : goal.returns-in_default
returns-in_default c = (
  marker_fields c.args.minor c.args.begin (map (λ t. t.now) c.args.fields.now) (λ one. omega (arith, one, c.in_default.len_below, length-map c.args.fields.now (λ t. t.now))),
  all_stays c.args.out.now.items,
)

pub returns-in_default-2 : goal.returns-in_default-2
returns-in_default-2 c = (
  marker_fields c.args.minor c.args.begin (map (λ t. t.now) c.args.fields.now) (λ one. omega (arith, one, c.in_default.len_at_least, length-map c.args.fields.now (λ t. t.now))),
  all_stays c.args.out.now.items,
)

pub returns-in_default-number_behind : goal.returns-in_default-number_behind
returns-in_default-number_behind c = (
  ap (λ (z : List (List ℕ)). read_marker c.args.minor (marker_name c.args.begin ∷ z)) (single (λ t. t.now) c.args.fields.now _ c.in-len1.len_at_least c.in-len1.len_below)
      ∙ marker_bad c.args.minor c.args.begin _ (sym c.number_behind.ensures ∙ c.in_default-number_behind.is),
  all_stays c.args.out.now.items,
)

pub put_block-requires-clause-fits : goal.put_block-requires-clause-fits
put_block-requires-clause-fits c =
    marker_writes c.args.minor c.args.begin c.in-Some.frame (frame_small _ _ c.in-Some.frame
    (single (λ t. t.now) c.args.fields.now _ c.in-len1.len_at_least c.in-len1.len_below) (sym c.number_behind.ensures ∙ c.in-Some.is))

pub returns : goal.returns
returns c =
    let w = marker_written c.args.minor c.args.begin c.in-Some.frame c.args.out.now.items c.put_block.new.out.items c.in_ok-put_block.ensures.ok in (
      w.0,
      ap (λ (z : List (List ℕ)). read_marker c.args.minor (marker_name c.args.begin ∷ z)) (single (λ t. t.now) c.args.fields.now _ c.in-len1.len_at_least c.in-len1.len_below)
          ∙ marker_read c.args.minor c.args.begin _ c.in-Some.frame (sym c.number_behind.ensures ∙ c.in-Some.is)
          ∙ w.1,
      w.2,
    )
