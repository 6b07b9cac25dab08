-- What is written is read: a header, and then the blocks of events that have a spelling.
use Rattle.std.proofs.Common.{◌≡◌, ℕ, ◌^◌, ◌<◌, ◌≤◌, ◌⊎◌, true, false, not, ◌&&◌, nat_lt, nat_le, List, [], ◌∷◌, ◌++◌, length, take, drop, map, Some, None, refl, sym, ap, subst, ◌∙◌, arith, inl, inr, append-nil, append_assoc, length-append}
use Rattle.std.specs.Prelude.{flat_map}
use Rattle.std.specs.Int.{w32, w64, from_le_bytes, to_le_bytes}
use Rattle.std.specs.List.{AllByRecursion}
use Rattle.std.proofs.lemmas.Bool.{lt-leb, le-ltb}
use Rattle.std.proofs.lemmas.Bool.Decides.{nat_tests}
use Rattle.std.proofs.lemmas.List.{take_at, drop_at, take_all}
use Rattle.std.proofs.lemmas.Nat.{from_le_bytes-to_le_bytes_4, from_le_bytes-to_le_bytes_8}
use Rattle.gfx_types.specs.declared.names.Fault.TheVariants.{Compressed, BlockTooLarge, UnknownBlock}
use Rattle.gfx_model.specs.Events.{Event}
use Rattle.gfx_model.specs.Spelling.{id_of, type_of, payload, block_bytes, encoding, header}
use Rattle.gfx_model.specs.Blocks.{is_marker, IsContent, IsThread, refuse, Position, size_field, type_field, payload_field, Content, effect, Whole, clean, minor_of, first_position}
use Rattle.gfx_grammar.specs.Rows.{read_content}
use Rattle.gfx_grammar.specs.Splitting.{Stops, blocks_from, blocks_of, only_end}
use Rattle.gfx_grammar.specs.Framing.{event_begins, event_ends, start_fault, head_fault, IsHeader, IsBlock, Part, placed, place_after, HaveRoom, with_items, CanBeWritten, Written, written_part}
use Rattle.gfx_grammar.specs.Laws.{WrittenIsRead}
use Rattle.gfx_grammar.proofs.FramingLaws.{refuse-false}
use Rattle.gfx_grammar.proofs.FrontLaws.{front-empty}
use Rattle.gfx_grammar.proofs.SaidLaws.{block-says_content}
use Rattle.gfx_grammar.proofs.ContentLaws.{is_known, event_known, content_is_read}
use Rattle.gfx_grammar.proofs.HeaderLaws.{blocks_of-header}
use Rattle.gfx_grammar.proofs.AloneLaws.{blocks_from-as, blocks_from-parts}

-- ---- a block that is written

-- the fields of a head
size_written : (n kind : ℕ) (load : List ℕ) → n < 2 ^ 64 → size_field ((to_le_bytes w64 n ++ to_le_bytes w32 kind) ++ load) ≡ n
size_written n kind load fits =
    ap (λ (xs : List ℕ). from_le_bytes w64 (take 8 xs)) (append_assoc (to_le_bytes w64 n) (to_le_bytes w32 kind) load)
    ∙ ap (from_le_bytes w64) (take_at (to_le_bytes w64 n) (to_le_bytes w32 kind ++ load) 8 refl)
    ∙ from_le_bytes-to_le_bytes_8 n fits

kind_written : (n kind : ℕ) (load : List ℕ) → kind < 2 ^ 32 → type_field ((to_le_bytes w64 n ++ to_le_bytes w32 kind) ++ load) ≡ kind
kind_written n kind load fits =
    ap (λ (xs : List ℕ). from_le_bytes w32 (take 4 (drop 8 xs))) (append_assoc (to_le_bytes w64 n) (to_le_bytes w32 kind) load)
    ∙ ap (λ (xs : List ℕ). from_le_bytes w32 (take 4 xs)) (drop_at (to_le_bytes w64 n) (to_le_bytes w32 kind ++ load) 8 refl)
    ∙ ap (from_le_bytes w32) (take_at (to_le_bytes w32 kind) load 4 refl)
    ∙ from_le_bytes-to_le_bytes_4 kind fits

known : (kind : ℕ) → 1 ≤ kind → kind ≤ 5 → not (nat_le 1 kind && nat_le kind 5) ≡ false
known kind low high = grind (arith, nat_tests)

good_head : (kind size : ℕ) → 1 ≤ kind → kind ≤ 5 → size ≤ 2 ^ 27
    → refuse (nat_le (2 ^ 31) kind) Compressed (refuse (nat_lt (2 ^ 27) size) BlockTooLarge (refuse (not (nat_le 1 kind && nat_le kind 5)) UnknownBlock None)) ≡ None
good_head kind size low high small =
    refuse-false (nat_le (2 ^ 31) kind) Compressed _ (lt-leb (2 ^ 31) kind (omega arith))
    ∙ refuse-false (nat_lt (2 ^ 27) size) BlockTooLarge _ (le-ltb (2 ^ 27) size small)
    ∙ refuse-false (not (nat_le 1 kind && nat_le kind 5)) UnknownBlock None (known kind low high)

-- size, type and payload
pub block-fields : (kind : ℕ) (load : List ℕ) → kind ≤ 5 → length load ≤ 2 ^ 27
    → (size_field (block_bytes kind load) ≡ length load) × (type_field (block_bytes kind load) ≡ kind) × (payload_field (block_bytes kind load) ≡ load)
block-fields kind load high small =
    let head = to_le_bytes w64 (length load) ++ to_le_bytes w32 kind in
    let bytes = block_bytes kind load in
    let size : size_field bytes ≡ length load = size_written (length load) kind load (omega (arith, small)) in
    let own : payload_field bytes ≡ load = ap (λ n. take n (drop 12 bytes)) size ∙ ap (take (length load)) (drop_at head load 12 refl) ∙ take_all (length load) load (omega arith) in
    (size, kind_written (length load) kind load (omega (arith, high)), own)

pub block_bytes-block : (m kind : ℕ) (load : List ℕ) (c : Content) → 1 ≤ kind → kind ≤ 5 → length load ≤ 2 ^ 27 → read_content m kind load ≡ Some c → IsBlock m (block_bytes kind load) c
unfolding head_fault
block_bytes-block m kind load c low high small is =
    let head = to_le_bytes w64 (length load) ++ to_le_bytes w32 kind in
    let bytes = block_bytes kind load in
    let fields = block-fields kind load high small in
    record {
      long = omega (arith, length-append head load, fields.0);
      head = rw (fields.0, fields.1) (good_head kind (length load) low high small);
      payload = ap (λ k. read_content m k (payload_field bytes)) fields.1 ∙ ap (read_content m kind) fields.2 ∙ is;
    }

known_low : (kind n : ℕ) → is_known kind n ≡ true → 1 ≤ kind
known_low kind n is = grind (arith, nat_tests)

known_high : (kind n : ℕ) → is_known kind n ≡ true → kind ≤ 5
known_high kind n is = grind (arith, nat_tests)

type_bounds : (e : Event) → (1 ≤ type_of e) × (type_of e ≤ 5)
type_bounds e =
    let is = (event_known e).0 in
    (known_low (type_of e) (id_of e) is, known_high (type_of e) (id_of e) is)

-- its payload is the event's
encoding-payload : (m t : ℕ) (e : Event) → length (payload m t e) ≤ 2 ^ 27 → (type_field (encoding m t e) ≡ type_of e) × (payload_field (encoding m t e) ≡ payload m t e)
unfolding encoding
encoding-payload m t e small =
    let fields = block-fields (type_of e) (payload m t e) (type_bounds e).1 small in
    (fields.1, fields.2)

pub encoding-block : (m t : ℕ) (e : Event) → CanBeWritten m t e → IsBlock m (encoding m t e) (effect t e)
unfolding encoding
encoding-block m t e h =
    let bounds = type_bounds e in
    block_bytes-block m (type_of e) (payload m t e) (effect t e) bounds.0 bounds.1 h.small
    (content_is_read m (type_of e) (payload m t e) (effect t e) (record { type = refl; fits = h.fits; thread_fits = h.thread_fits; same = refl }))

-- it is a marker where the event is one
pub encoding-says : (m t : ℕ) (e : Event) → CanBeWritten m t e → (is_marker 1 (encoding m t e) ≡ event_begins e) × (is_marker 2 (encoding m t e) ≡ event_ends e)
encoding-says m t e h =
    let fields = encoding-payload m t e h.small in
    let content : IsContent m (type_field (encoding m t e)) (payload_field (encoding m t e)) (effect t e) =
    record { type = sym fields.0; fits = h.fits; thread_fits = subst (λ k. IsThread k t) (sym fields.0) h.thread_fits; same = fields.1 } in
    block-says_content m (encoding m t e) (effect t e) (encoding-block m t e h) content

-- ---- a file that is written

-- the header of a version is one in order
pub header-good : (m : ℕ) → (m ≡ 1) ⊎ (m ≡ 2) → IsHeader (header m)
unfolding start_fault
header-good m (inl one) = subst (λ m. IsHeader (header m)) (sym one) (record { there = omega arith; start = refl; long = refl; options = refl })
header-good m (inr two) = subst (λ m. IsHeader (header m)) (sym two) (record { there = omega arith; start = refl; long = refl; options = refl })

pub header-minor : (m : ℕ) → (m ≡ 1) ⊎ (m ≡ 2) → minor_of (header m) ≡ m
header-minor m (inl one) = subst (λ m. minor_of (header m) ≡ m) (sym one) refl
header-minor m (inr two) = subst (λ m. minor_of (header m) ≡ m) (sym two) refl

-- no bytes are no blocks
pub blocks_from-empty : (m : ℕ) (at : Position) → blocks_from m at [] ≡ only_end clean
blocks_from-empty m at = blocks_from-as m at [] (Stops clean) (front-empty m at [] refl)

-- a header and parts that are blocks
pub blocks_of-parts : (head : List ℕ) (ps : List Part) → IsHeader head → AllByRecursion (λ p. IsBlock (minor_of head) p.bytes p.content) ps → HaveRoom (first_position head) ps
    → blocks_of (head ++ flat_map (λ p. p.bytes) ps) ≡ record { items = placed (first_position head) ps; end = clean }
blocks_of-parts head ps h are room =
    let text = flat_map (λ (p : Part). p.bytes) ps in
    let m = minor_of head in
    let at = first_position head in
    blocks_of-header head text h
    ∙ ap (blocks_from m at) (sym (append-nil text))
    ∙ blocks_from-parts m at ps [] are room
    ∙ ap (with_items (placed at ps)) (blocks_from-empty m (place_after at ps))
    ∙ ap (λ (ws : List Whole). record { items = ws; end = clean }) (append-nil (placed at ps))

-- the blocks that are written of events
written-blocks : (m : ℕ) (ws : List Written) → AllByRecursion (λ w. CanBeWritten m w.thread w.event) ws → AllByRecursion (λ p. IsBlock m p.bytes p.content) (map (written_part m) ws)
written-blocks m [] can = tt
written-blocks m (w ∷ ws) can = (encoding-block m w.thread w.event can.0, written-blocks m ws can.1)

written-text : (m : ℕ) (ws : List Written) → flat_map (λ (p : Part). p.bytes) (map (written_part m) ws) ≡ flat_map (λ (w : Written). encoding m w.thread w.event) ws
written-text m [] = refl
written-text m (w ∷ ws) = ap (λ (xs : List ℕ). encoding m w.thread w.event ++ xs) (written-text m ws)

pub written_is_read : WrittenIsRead
written_is_read m ws version can room =
    ap (λ (xs : List ℕ). blocks_of (header m ++ xs)) (sym (written-text m ws))
    ∙ blocks_of-parts (header m) (map (written_part m) ws) (header-good m version)
    (subst (λ m'. AllByRecursion (λ p. IsBlock m' p.bytes p.content) (map (written_part m) ws)) (sym (header-minor m version)) (written-blocks m ws can)) room
