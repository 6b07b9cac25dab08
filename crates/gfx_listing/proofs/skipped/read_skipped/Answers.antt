use Rattle.std.proofs.Common.{List, ◌∷◌, ℕ, map, ap, ◌∙◌, arith}
use Rattle.std.proofs.lemmas.List.{length-map}
use Rattle.gfx_grammar.specs.Framing.{Part}
use Rattle.gfx_text_grammar.specs.Lines.{read_skipped}
use Rattle.gfx_listing.specs.Lines.{skipped_block}
use Rattle.gfx_listing.proofs.Cuts.{single}
use Rattle.gfx_listing.proofs.Dispatch.{skipped_fields, skipped_is, skipped_bad}
use Rattle.gfx_listing.proofs.Parts.{all_stays, along_read}
use Rattle.gfx_listing.proofs.skipped.read_skipped.Goals as goal

pub returns-in_default : goal.returns-in_default
returns-in_default c = λ name is. (
  skipped_fields name (map (λ t. t.now) c.args.fields.now) (λ one. omega (arith, one, c.in_default.len_below, length-map c.args.fields.now (λ t. t.now))),
  all_stays c.args.out.now.items,
)

pub returns-in_default-2 : goal.returns-in_default-2
returns-in_default-2 c = λ name is. (
  skipped_fields name (map (λ t. t.now) c.args.fields.now) (λ one. omega (arith, one, c.in_default.len_at_least, length-map c.args.fields.now (λ t. t.now))),
  all_stays c.args.out.now.items,
)

pub returns-in-Some : goal.returns-in-Some
returns-in-Some c = λ name is.
    along_read c.append_skipped.result (read_skipped (name ∷ map (λ t. t.now) c.args.fields.now)) (skipped_block c.args.kind c.in-Some.digits.now) (λ (p : Part). p.bytes)
    c.args.out.now.items c.append_skipped.new.out.items
    (ap (λ (z : List (List ℕ)). read_skipped (name ∷ z)) (single (λ t. t.now) c.args.fields.now _ c.in-len1.len_at_least c.in-len1.len_below)
    ∙ skipped_is c.args.kind name _ c.in-Some.digits.now is c.in-Some.ensures)
    c.append_skipped.ensures

pub returns-in-None : goal.returns-in-None
returns-in-None c = λ name is. (
  ap (λ (z : List (List ℕ)). read_skipped (name ∷ z)) (single (λ t. t.now) c.args.fields.now _ c.in-len1.len_at_least c.in-len1.len_below)
      ∙ skipped_bad c.args.kind name _ is c.in-None.ensures,
  all_stays c.args.out.now.items,
)
