-- Reading of a whole listing.
use Rattle.std.specs.Prelude.{ℕ, ◌^◌, ◌==◌, nat_lt, nat_le, Bool, true, ◌&&◌, if◌then◌else◌, List, [], ◌∷◌, ◌++◌, length, flat_map, Option, Some, None, is_none, codes, ◌≡◌, take, map}
use Rattle.std.specs.Int.{w32, to_le_bytes}
use Rattle.gfx_model.specs.Checks.{same_list}
use Rattle.gfx_model.specs.Blocks.{header_fault, header_length, minor_of, Position, side_count, next_position, first_position, Whole}
use Rattle.gfx_grammar.specs.Reading.{◌>>=◌, Reader}
use Rattle.gfx_grammar.specs.Framing.{Part, placed, IsHeader, part_of}
use Rattle.gfx_text_grammar.specs.Words.{number_in}
use Rattle.gfx_text_grammar.specs.Reading.{behind, read_u32}
use Rattle.gfx_text_grammar.specs.FieldReading.{whole, without_front}
use Rattle.gfx_text_grammar.specs.Splits.{tokens_of, whole_lines, each_read}
use Rattle.gfx_text_grammar.specs.Lines.{read_line}
use Rattle.gfx_grammar.specs.Reads.{AreBytes}
use Rattle.gfx_grammar.specs.Splitting.{blocks_of}
use Rattle.gfx_feature_model.specs.Listing.{header_text}
use Rattle.gfx_model.specs.Limits.{max_options, max_side_blocks}

-- ---- the header

-- KEY=VALUE
unfoldable pub read_pair : Reader (ℕ × ℕ)
read_pair text = read_u32 text >>= λ k. behind 61 k.1 >>= λ t. read_u32 t >>= λ v. Some ((k.0, v.0), v.1)

-- an option's key and value
abbrev pub option_bytes : ℕ × ℕ → List ℕ
option_bytes o = to_le_bytes w32 o.0 ++ to_le_bytes w32 o.1

-- the header of this minor version with these options
abbrev pub header_with : ℕ → List (ℕ × ℕ) → List ℕ
header_with m options =
    (to_le_bytes w32 0x52584647 ++ (to_le_bytes w32 1000 ++ (to_le_bytes w32 m ++ to_le_bytes w32 (length options))))
    ++ flat_map option_bytes options

-- the bytes are a header in order, and nothing else
abbrev pub is_header : List ℕ → Bool
is_header bytes = is_none (header_fault bytes) && length bytes == header_length bytes

-- the header, where it is in order
abbrev pub good_header : ℕ → List (ℕ × ℕ) → Option (List ℕ)
good_header m options =
    if nat_le (length options) max_options && is_header (header_with m options) then Some (header_with m options) else None

-- 1000.MINOR and the options
abbrev pub header_of : List ℕ → List (List ℕ) → Option (List ℕ)
header_of version options =
    without_front (codes "1000.") version >>= number_in (2 ^ 32) >>= λ m.
    each_read (whole read_pair) options >>= good_header m

-- gfxr, the version and the options
abbrev pub header_of_tokens : List (List ℕ) → Option (List ℕ)
header_of_tokens [] = None
header_of_tokens (name ∷ []) = None
header_of_tokens (name ∷ version ∷ options) = if same_list name (codes "gfxr") then header_of version options else None

-- the header that has this line
unfoldable pub read_header : List ℕ → Option (List ℕ)
read_header line = header_of_tokens (tokens_of line)

-- the bytes are a header in order with this line
pub record HasHeaderLine (bytes line : List ℕ) : Type 0 where
  pub header : IsHeader bytes
  pub bytes_fit : AreBytes bytes
  pub same : line ≡ header_text bytes

-- ---- all lines

-- the header and the blocks that are listed
pub record Listed : Type 0 where
  pub header : List ℕ
  pub parts : List Part

-- the file of them
abbrev pub file_of : Listed → List ℕ
file_of l = l.header ++ flat_map (λ p. p.bytes) l.parts

-- its blocks
abbrev pub blocks_in : Listed → List Whole
blocks_in l = placed (first_position l.header) l.parts

-- no side of the section gets too many blocks
abbrev pub has_room : Position → List Part → Bool
has_room at [] = true
has_room at (p ∷ ps) = nat_lt (side_count at p.bytes) max_side_blocks && has_room (next_position at p.bytes) ps

-- header and blocks, where there is room for them
abbrev pub if_room : List ℕ → List Part → Option Listed
if_room header parts =
    if has_room (first_position header) parts then Some (record { header = header; parts = parts }) else None

-- the first line is the header's
unfoldable pub read_lines : List (List ℕ) → Option Listed
read_lines [] = None
read_lines (h ∷ ls) = read_header h >>= λ header. each_read (read_line (minor_of header)) ls >>= if_room header

-- what a listing lists
unfoldable pub read_listing : List ℕ → Option Listed
read_listing text = whole_lines text >>= read_lines

-- what a file lists: its header and its blocks
abbrev pub listed_of : List ℕ → Listed
listed_of bytes = record { header = take (header_length bytes) bytes; parts = map part_of (blocks_of bytes).items }
