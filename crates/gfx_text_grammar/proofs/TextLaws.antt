-- The laws of fields, listings and scripts.
use Rattle.std.proofs.Common.{◌≡◌, ℕ, List, Some, sym, ap, subst, ◌∙◌}
use Rattle.gfx_model.specs.Spelling.{type_of}
use Rattle.gfx_model.specs.Fields.{named_fields}
use Rattle.gfx_text_grammar.specs.FieldReading.{with_fields, nothing}
use Rattle.gfx_feature_model.specs.Listing.{IsListing, listing_of}
use Rattle.gfx_model.specs.Blocks.{clean, AreBlocks, Whole}
use Rattle.gfx_grammar.specs.Reads.{AreBytes}
use Rattle.gfx_grammar.proofs.NumberLaws.{some_is}
use Rattle.gfx_grammar.specs.Splitting.{Blocks, blocks_of}
use Rattle.gfx_grammar.proofs.BlockLaws.{blocks_are_computed}
use Rattle.gfx_text_grammar.specs.Lines.{read_line}
use Rattle.gfx_text_grammar.specs.Rows.{read_event}
use Rattle.gfx_text_grammar.specs.Listings.{file_of, blocks_in, read_header, read_listing, listed_of}
use Rattle.gfx_text_grammar.proofs.EventLaws.{read_is_shown, shown_is_read}
use Rattle.gfx_text_grammar.proofs.LineLaws.{line_takes, line_again}
use Rattle.gfx_text_grammar.proofs.HeaderLaws.{header_takes, header_again}
use Rattle.gfx_text_grammar.proofs.ListingLaws.{front_listed, listing_takes, listing_again}
use Rattle.gfx_text_grammar.specs.Laws.{FieldsAreRead, LinesAreRead, HeadersAreRead, ReadIsListed, ListedIsRead, OneListing, FrontsAreListings, StylesRead, StatementsAreRead, FormsAreRead, OutcomesAreComputed, ParsesAreComputed}
use Rattle.gfx_text_grammar.proofs.StatementLaws.{statement_takes, statement_again}
use Rattle.gfx_text_grammar.proofs.ParseLaws.{form_takes, form_again, line_only, parse_takes, parse_only, line_takes as outcome_takes}
use Rattle.gfx_text_grammar.proofs.StyleLaws.{numbered_style, named_style}

pub fields_are_read : FieldsAreRead
fields_are_read s is m kind name left e = (
  λ h. read_is_shown s is m kind name left e h,
  λ h.
      ap (read_event s m kind name) h.1
      ∙ ap (λ k. read_event s m k name (with_fields s (named_fields m e) nothing)) (sym h.4)
      ∙ ap (λ (n : List ℕ). read_event s m (type_of e) n (with_fields s (named_fields m e) nothing)) (sym h.3)
      ∙ shown_is_read s is m e h.2 h.0,
)

pub lines_are_read : LinesAreRead
lines_are_read m line p = (λ h. line_takes m line p h, λ h. ap (read_line m) h.same ∙ line_again m p h.block h.bytes)

pub headers_are_read : HeadersAreRead
headers_are_read line bytes = (λ h. header_takes line bytes h, λ h. ap read_header h.same ∙ header_again bytes h.header h.bytes_fit)

-- the blocks of a file that has a listing
computed : (bytes text : List ℕ) → AreBytes bytes → (l : IsListing bytes text) → blocks_of bytes ≡ record { items = l.blocks; end = clean }
computed bytes text fit l = (blocks_are_computed bytes fit).1 l.blocks clean l.are

again : (bytes text : List ℕ) (ws : List Whole) → AreBytes bytes → blocks_of bytes ≡ record { items = ws; end = clean } → text ≡ listing_of bytes ws
    → (read_listing text ≡ Some (listed_of bytes)) × (file_of (listed_of bytes) ≡ bytes)
again bytes text ws fit is same =
    let items : (blocks_of bytes).items ≡ ws = ap (λ (b : Blocks). b.items) is in
    let g = listing_again bytes (blocks_of bytes).items fit (is ∙ ap (λ (z : List Whole). record { items = z; end = clean }) (sym items)) in
    (ap read_listing (same ∙ ap (listing_of bytes) (sym items)) ∙ g.read, g.file)

pub listed_is_read : ListedIsRead
listed_is_read bytes text fit l = again bytes text l.blocks fit (computed bytes text fit l) l.same

pub read_is_listed : ReadIsListed
read_is_listed text l is =
    let h = listing_takes text l is in
    let bytes = file_of l in
    let are : AreBlocks bytes (blocks_in l) clean = subst (λ (b : Blocks). AreBlocks bytes b.items b.end) h.blocks (blocks_are_computed bytes h.bytes).0 in
    let g = again bytes text (blocks_in l) h.bytes h.blocks h.same in
    (h.bytes, record { blocks = blocks_in l; are = are; same = h.same }, some_is l (listed_of bytes) (sym is ∙ g.0))

pub one_listing : OneListing
one_listing a b text fit_a fit_b is_a is_b =
    let g = listed_is_read a text fit_a is_a in
    let h = listed_is_read b text fit_b is_b in
    sym g.1 ∙ ap file_of (some_is (listed_of a) (listed_of b) (sym g.0 ∙ h.0)) ∙ h.1

pub styles_read : StylesRead
styles_read = (numbered_style, named_style)

pub statements_are_read : StatementsAreRead
statements_are_read m tokens e = (λ h. statement_takes m tokens e h, λ h. statement_again m tokens e h)

pub forms_are_read : FormsAreRead
forms_are_read m tokens f = (λ h. form_takes m tokens f h, λ h. form_again m tokens f h)

pub outcomes_are_computed : OutcomesAreComputed
outcomes_are_computed number through r line = (outcome_takes number through r line, λ outcome h. line_only number through r line outcome h)

pub parses_are_computed : ParsesAreComputed
parses_are_computed text = (parse_takes text, λ parsed h. parse_only text parsed h)

pub fronts_are_listings : FrontsAreListings
fronts_are_listings h ls more l is = front_listed h ls more l is
