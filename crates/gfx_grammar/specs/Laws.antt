-- Laws of the grammar, which functions with empty bodies promise.
use Rattle.std.specs.Prelude.{◌*◌, nat_lt, ◌≤◌, [], ◌∷◌, length, ◌⊎◌, ◌++◌, ◌<◌, map, flat_map, Bool, false, ◌==◌, ◌&&◌, ◌||◌, nat_le, None, ◌+◌, drop, ◌≡◌, ℕ, List, Some}
use Rattle.std.specs.List.{AllByRecursion}
use Rattle.gfx_types.specs.declared.names.Fault.{Fault}
use Rattle.gfx_types.specs.declared.names.Fault.TheVariants.{Truncated}
use Rattle.gfx_model.specs.Events.{Event}
use Rattle.gfx_model.specs.Events.Event.{BeginSection, EndSection}
use Rattle.gfx_model.specs.Spelling.{header, Spells, call_count, metadata_count, id_of, type_of}
use Rattle.gfx_model.specs.Blocks.{header_fault, refuse, option_count, options_fault, side_count, minor_of, first_position, Whole, clean, next_position, size_field, Content, IsContent, End, AreBlocks, Position, EndsHere, IsFront}
use Rattle.gfx_model.specs.Limits.{max_side_blocks}
use Rattle.gfx_model.specs.Trimmed.{file_of}
use Rattle.gfx_grammar.specs.Reads.{AreBytes}
use Rattle.gfx_grammar.specs.Rows.{read_event, read_content}
use Rattle.gfx_grammar.specs.Framing.{start_fault, head_fault, IsHead, marks, count_fault, side, past, says_begin, says_end, IsHeader, IsBlock, Part, placed, HaveRoom, Splits, CanBeWritten, Written, written_part, written_by, file_parts, IsUnmarked}
use Rattle.gfx_grammar.specs.Splitting.{breaks, with_payload, block_at, front, Stops, Finds, after_front, blocks_from, blocks_of}

-- what is read is spelled so, each byte of it
abbrev pub ReadIsSpelled : Type 0
ReadIsSpelled = (m kind n : ℕ) (bytes : List ℕ) (e : Event) → AreBytes bytes → read_event m kind n bytes ≡ Some e
    → Spells m e bytes × (id_of e ≡ n) × (type_of e ≡ kind)

-- what is spelled so is read
abbrev pub SpelledIsRead : Type 0
SpelledIsRead = (m : ℕ) (bytes : List ℕ) (e : Event) → Spells m e bytes → read_event m (type_of e) (id_of e) bytes ≡ Some e

-- what is read of a payload is its content
abbrev pub ReadIsContent : Type 0
ReadIsContent = (m kind : ℕ) (bytes : List ℕ) (c : Content) → AreBytes bytes → read_content m kind bytes ≡ Some c → IsContent m kind bytes c

-- the content of a payload is read
abbrev pub ContentIsRead : Type 0
ContentIsRead = (m kind : ℕ) (bytes : List ℕ) (c : Content) → IsContent m kind bytes c → read_content m kind bytes ≡ Some c

-- the list ends at the start exactly where the computed prefix says so
abbrev pub EndsAreComputed : Type 0
EndsAreComputed = (m : ℕ) (at : Position) (bytes : List ℕ) (end : End) → AreBytes bytes
    → (front m at bytes ≡ Stops end → EndsHere m at bytes end) × (EndsHere m at bytes end → front m at bytes ≡ Stops end)

-- a whole block is at the start exactly where the computed prefix says so
abbrev pub FrontsAreComputed : Type 0
FrontsAreComputed = (m : ℕ) (at : Position) (bytes : List ℕ) (w : Whole) → AreBytes bytes
    → (front m at bytes ≡ Finds w → IsFront m at bytes w) × (IsFront m at bytes w → front m at bytes ≡ Finds w)

-- the computed blocks are blocks of the bytes, and there are no others
abbrev pub BlocksAreComputed : Type 0
BlocksAreComputed = (bytes : List ℕ) → AreBytes bytes
    → AreBlocks bytes (blocks_of bytes).items (blocks_of bytes).end
    × ((blocks : List Whole) (end : End) → AreBlocks bytes blocks end → blocks_of bytes ≡ record { items = blocks; end = end })

-- the blocks are what is at the start, and then the blocks of what follows it
abbrev pub BlocksGoOn : Type 0
BlocksGoOn = (m : ℕ) (at : Position) (bytes : List ℕ)
    → blocks_from m at bytes ≡ after_front (front m at bytes) (blocks_from m (next_position at bytes) (drop (12 + size_field bytes) bytes))

-- bytes split into whole blocks and an end in one way: what is computed
abbrev pub SplitsInOneWay : Type 0
SplitsInOneWay = (m : ℕ) (at : Position) (bytes : List ℕ)
    → Splits m at bytes (blocks_from m at bytes).items (blocks_from m at bytes).end
    × ((ws : List Whole) (end : End) → Splits m at bytes ws end → blocks_from m at bytes ≡ record { items = ws; end = end })

-- the table of this type of block has a row of this number
abbrev pub has_row : ℕ → ℕ → Bool
has_row kind n =
    kind == 4 && nat_le 1 n && nat_le n call_count || kind == 3 && nat_le 2 n && nat_le n metadata_count || kind == 2 && nat_le 1 n && nat_le n 2

-- nothing is read where there is no row
abbrev pub OthersAreNotRead : Type 0
OthersAreNotRead = (m kind n : ℕ) (bytes : List ℕ) → has_row kind n ≡ false → read_event m kind n bytes ≡ None

-- The first sixteen bytes of a file decide, and then its options.
abbrev pub HeaderDecides : Type 0
HeaderDecides = (start rest : List ℕ) → length start ≡ 16
    → ((f : Fault) → start_fault start ≡ Some f → header_fault (start ++ rest) ≡ Some f)
    × (start_fault start ≡ None
    → header_fault (start ++ rest) ≡ refuse (nat_lt (length rest) (8 * option_count start)) Truncated (options_fault rest 0 0 (option_count start)))

-- The first twelve bytes of a block decide, then the count of blocks on its side, and then how far the bytes go.
abbrev pub HeadDecides : Type 0
HeadDecides = (m : ℕ) (at : Position) (head rest : List ℕ) → length head ≡ 12
    → ((f : Fault) → head_fault head ≡ Some f → front m at (head ++ rest) ≡ breaks at f)
    × ((kind size : ℕ) → IsHead kind size head →
    ((f : Fault) → count_fault at (marks 1 kind size rest) ≡ Some f → front m at (head ++ rest) ≡ breaks at f)
    × (length rest < size → count_fault at false ≡ None → front m at (head ++ rest) ≡ breaks at Truncated))

-- Behind a head in order a whole payload decides, whatever follows it.
abbrev pub PayloadDecides : Type 0
PayloadDecides = (m : ℕ) (at : Position) (kind size : ℕ) (head payload rest : List ℕ) → IsHead kind size head
    → length payload ≡ size → count_fault at (marks 1 kind size payload) ≡ None
    → front m at (head ++ (payload ++ rest)) ≡ with_payload at (head ++ payload) kind payload (read_content m kind payload)

-- a block that was found is found whatever follows it
abbrev pub RestDoesNotMatter : Type 0
RestDoesNotMatter = (m : ℕ) (at : Position) (bytes rest : List ℕ) (w : Whole) → front m at bytes ≡ Finds w → front m at (w.bytes ++ rest) ≡ Finds w

-- a block is found wherever it stands, while its side has room
abbrev pub PlaceDoesNotMatter : Type 0
PlaceDoesNotMatter = (m : ℕ) (at : Position) (bytes rest : List ℕ) (c : Content) → IsBlock m bytes c → side_count at bytes < max_side_blocks
    → front m at (bytes ++ rest) ≡ Finds (block_at at bytes c)

-- what a block says decides on which side it counts, and where the next block stands
abbrev pub SaidDecides : Type 0
SaidDecides = (m : ℕ) (at : Position) (bytes : List ℕ) (c : Content) → AreBytes bytes → IsBlock m bytes c
    → (side_count at bytes ≡ side at (says_begin c)) × (next_position at bytes ≡ past at (size_field bytes) (says_begin c) (says_end c))

-- a header and blocks one after the other have just these blocks, and end cleanly
abbrev pub PartsAreBlocks : Type 0
PartsAreBlocks = (head : List ℕ) (ps : List Part) → IsHeader head → AllByRecursion (λ p. IsBlock (minor_of head) p.bytes p.content) ps
    → HaveRoom (first_position head) ps
    → blocks_of (head ++ flat_map (λ p. p.bytes) ps) ≡ record { items = placed (first_position head) ps; end = clean }

-- so does a file that is written of events
abbrev pub WrittenIsRead : Type 0
WrittenIsRead = (m : ℕ) (ws : List Written) → (m ≡ 1) ⊎ (m ≡ 2) → AllByRecursion (λ w. CanBeWritten m w.thread w.event) ws
    → HaveRoom (first_position (header m)) (map (written_part m) ws)
    → blocks_of (written_by m ws) ≡ record { items = placed (first_position (header m)) (map (written_part m) ws); end = clean }

-- and a file of a section that is made, and of blocks that are copied
abbrev pub FileIsRead : Type 0
FileIsRead = (m : ℕ) (made : List Event) (blocks : List Whole) → (m ≡ 1) ⊎ (m ≡ 2) → AllByRecursion (CanBeWritten m 0) made
    → AllByRecursion (λ w. IsBlock m w.bytes w.content) blocks → HaveRoom (first_position (header m)) (file_parts m made blocks)
    → blocks_of (file_of m made blocks) ≡ record { items = placed (first_position (header m)) (file_parts m made blocks); end = clean }

-- such a file has room for as many blocks of the section as a side may have, and for as many behind it
abbrev pub FileHasRoom : Type 0
FileHasRoom = (m n : ℕ) (made : List Event) (blocks : List Whole)
    → AllByRecursion (CanBeWritten m 0) (BeginSection n ∷ made ++ EndSection n ∷ []) → AllByRecursion IsUnmarked made → length made + 2 ≤ max_side_blocks
    → AllByRecursion (λ w. IsBlock m w.bytes w.content × AreBytes w.bytes × (says_begin w.content ≡ false)) blocks → length blocks ≤ max_side_blocks
    → HaveRoom (first_position (header m)) (file_parts m (BeginSection n ∷ made ++ EndSection n ∷ []) blocks)
