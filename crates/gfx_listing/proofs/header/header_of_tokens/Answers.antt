use Rattle.std.proofs.Common.{◌-◌, [], length, get_or, map, take, drop, sym, ap, ◌∙◌, arith}
use Rattle.std.proofs.lemmas.List.{length-map}
use Rattle.gfx_text_grammar.specs.Listings.{header_of_tokens}
use Rattle.gfx_listing.specs.Lines.{header_by}
use Rattle.gfx_listing.proofs.Cuts.{first_at, first_two}
use Rattle.gfx_listing.proofs.HeadReading.{header_short, header_other, header_named, header_versed, header_unversed, along_header}
use Rattle.gfx_listing.proofs.Parts.{all_stays}
use Rattle.gfx_listing.proofs.header.header_of_tokens.Goals as goal

pub returns-in_default : goal.returns-in_default
returns-in_default c = (
  header_short (map (λ t. t.now) c.args.tokens.now) (omega (arith, c.in_default.len_below, length-map c.args.tokens.now (λ t. t.now))),
  all_stays c.args.out.now.items,
)

pub returns-then-not-is_word : goal.returns-then-not-is_word
returns-then-not-is_word c = (
  header_other (map (λ t. t.now) c.args.tokens.now) _ _ (first_at (λ t. t.now) c.args.tokens.now _ (omega (arith, c.in-len2-up.len_at_least))) (sym c.is_word.ensures ∙ c.if-not-is_word.true),
  all_stays c.args.out.now.items,
)

pub returns-in_default-short_behind : goal.returns-in_default-short_behind
returns-in_default-short_behind c =
    let tokens = c.args.tokens.now in
    let name = (get_or tokens 0 (record { ref_ptr = (0, 0); now = [] })).now in
    let version = (get_or tokens 1 (record { ref_ptr = (0, 0); now = [] })).now in
    let options = map (λ t. t.now) (take (length tokens - 2) (drop 2 tokens)) in (
      ap header_of_tokens (first_two (λ t. t.now) tokens (record { ref_ptr = (0, 0); now = [] }) (record { ref_ptr = (0, 0); now = [] }) c.in-len2-up.len_at_least)
          ∙ header_named name version options (sym c.is_word.ensures ∙ c.if-not-is_word.false)
          ∙ header_unversed version options (sym c.short_behind.ensures ∙ c.in_default-short_behind.is),
      all_stays c.args.out.now.items,
    )

pub returns : goal.returns
returns c =
    let tokens = c.args.tokens.now in
    let name = (get_or tokens 0 (record { ref_ptr = (0, 0); now = [] })).now in
    let version = (get_or tokens 1 (record { ref_ptr = (0, 0); now = [] })).now in
    let options = map (λ t. t.now) (take (length tokens - 2) (drop 2 tokens)) in
    along_header c.header_of.result (header_of_tokens (map (λ t. t.now) tokens)) (header_by c.in-Some.minor options) c.args.out.now.items c.header_of.new.out.items
    (ap header_of_tokens (first_two (λ t. t.now) tokens (record { ref_ptr = (0, 0); now = [] }) (record { ref_ptr = (0, 0); now = [] }) c.in-len2-up.len_at_least)
    ∙ header_named name version options (sym c.is_word.ensures ∙ c.if-not-is_word.false)
    ∙ header_versed version c.in-Some.minor options (sym c.short_behind.ensures ∙ c.in-Some.is))
    c.header_of.ensures
