-- What is read of a line is a block with this line, and the line of a block is read.
use Rattle.std.proofs.Common.{◌≡◌, ℕ, ◌≤◌, true, List, ◌++◌, length, drop, Some, sym, ap, subst, ◌∙◌, arith, length-take, inl, inr}
use Rattle.gfx_model.specs.Spelling.{block_bytes, type_of}
use Rattle.gfx_feature_model.specs.Listing.{skipped_text, event_words, block_text}
use Rattle.gfx_model.specs.Blocks.{size_field, type_field, payload_field, Content, skipped, effect, IsContent}
use Rattle.gfx_grammar.specs.Reads.{AreBytes}
use Rattle.gfx_grammar.proofs.NumberLaws.{AreBytes-take, AreBytes-drop}
use Rattle.gfx_grammar.specs.Framing.{IsBlock, Part}
use Rattle.gfx_grammar.proofs.FramingLaws.{head-bounds}
use Rattle.gfx_grammar.proofs.ContentLaws.{read_is_content}
use Rattle.gfx_text_grammar.specs.Splits.{is_without, tokens_of}
use Rattle.gfx_text_grammar.specs.Lines.{read_line, HasLine}
use Rattle.gfx_text_grammar.proofs.SplitLaws.{tokens_takes, join_no_feed}
use Rattle.gfx_grammar.proofs.WrittenLaws.{block-fields}
use Rattle.gfx_text_grammar.proofs.BlockLaws.{block-parts}
use Rattle.gfx_text_grammar.proofs.SkippedLaws.{or_else_some, skipped_takes, skipped_line, skipped_no_feed}
use Rattle.gfx_text_grammar.proofs.EventLineLaws.{marker_takes, threaded_takes, event_line, event_fields, event_tokens, words_graphic}
use Rattle.gfx_text_grammar.proofs.SpellingLaws.{spelling-text}
use Rattle.gfx_model.specs.Limits.{max_payload}

-- what is read of a line is a block with this line
pub line_takes : (m : ℕ) (line : List ℕ) (p : Part) → read_line m line ≡ Some p → HasLine m p line
unfolding read_line
line_takes m line p is =
    subst (λ (z : List ℕ). HasLine m p z) (tokens_takes line)
    (elim (or_else_some _ _ p is) [
      | inl a ↦ skipped_takes m (tokens_of line) p a
      | inr more ↦ elim (or_else_some _ _ p more) [
        | inl b ↦ marker_takes m (tokens_of line) p b
        | inr c ↦ threaded_takes m (tokens_of line) p c
      ]
    ])

-- ---- the line of a block is read

line_of : (m kind : ℕ) (load : List ℕ) (c : Content) → AreBytes load → length load ≤ max_payload → kind ≤ 5 → IsContent m kind load c
    → read_line m (block_text m (block_bytes kind load) c) ≡ Some (record { bytes = block_bytes kind load; content = c })
line_of m kind load skipped fit small high is =
    let fields = block-fields kind load high small in
    ap (λ (z : List ℕ). read_line m (skipped_text (type_field (block_bytes kind load)) z)) fields.2
    ∙ ap (λ n. read_line m (skipped_text n load)) fields.1
    ∙ skipped_line m kind load fit small is
line_of m kind load (effect t e) fit small high s = event_line m kind t load e s small

-- the line of a block is read
pub line_again : (m : ℕ) (p : Part) → IsBlock m p.bytes p.content → AreBytes p.bytes → read_line m (block_text m p.bytes p.content) ≡ Some p
line_again m p h fit =
    let bytes = p.bytes in
    let kind = type_field bytes in
    let load = payload_field bytes in
    let bounds = head-bounds bytes h.head in
    let load_fit : AreBytes load = AreBytes-take (size_field bytes) (drop 12 bytes) (AreBytes-drop 12 bytes fit) in
    let small : length load ≤ max_payload = omega (arith, bounds.0, length-take (size_field bytes) (drop 12 bytes)) in
    let same : bytes ≡ block_bytes kind load = block-parts bytes fit h.long in
    subst (λ (z : List ℕ). read_line m (block_text m z p.content) ≡ Some (record { bytes = z; content = p.content })) (sym same)
    (line_of m kind load p.content load_fit small bounds.2 (read_is_content m kind load p.content load_fit h.payload))

-- ---- no line has a line feed

content_no_feed : (m kind : ℕ) (bytes load : List ℕ) (c : Content) → AreBytes (payload_field bytes) → length (payload_field bytes) ≤ max_payload → IsContent m kind load c
    → is_without 10 (block_text m bytes c) ≡ true
content_no_feed m kind bytes load skipped fit small is = skipped_no_feed (type_field bytes) (payload_field bytes) fit small
content_no_feed m kind bytes load (effect t e) fit small s =
    join_no_feed (event_words (type_of e) t e ++ event_fields m e)
    (words_graphic (type_of e) t e (event_fields m e) s.thread_fits.0 (event_tokens m t e (spelling-text m e s.fits.fields)))

-- the line of a block has no line feed
pub line_no_feed : (m : ℕ) (p : Part) → IsBlock m p.bytes p.content → AreBytes p.bytes → is_without 10 (block_text m p.bytes p.content) ≡ true
line_no_feed m p h fit =
    let bytes = p.bytes in
    let load = payload_field bytes in
    let bounds = head-bounds bytes h.head in
    let load_fit : AreBytes load = AreBytes-take (size_field bytes) (drop 12 bytes) (AreBytes-drop 12 bytes fit) in
    let small : length load ≤ max_payload = omega (arith, bounds.0, length-take (size_field bytes) (drop 12 bytes)) in
    content_no_feed m (type_field bytes) bytes load p.content load_fit small (read_is_content m (type_field bytes) load p.content load_fit h.payload)
