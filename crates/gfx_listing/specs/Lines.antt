-- Parts of the lines of a listing.
use Rattle.std.specs.Prelude.{ℕ, ◌+◌, Bool, true, false, if◌then◌else◌, List, [], ◌++◌, Option, Some, None, codes, decimal}
use Rattle.std.specs.Int.{w32, to_le_bytes}
use Rattle.gfx_model.specs.Blocks.{u32_at, skipped}
use Rattle.gfx_model.specs.Checks.{same_list}
use Rattle.gfx_grammar.specs.Framing.{Part}
use Rattle.gfx_grammar.specs.Reading.{◌>>=◌}
use Rattle.gfx_text_grammar.specs.FieldReading.{whole, without_front}
use Rattle.gfx_text_grammar.specs.Lines.{or_else, block_of, skipped_payload, event_block, read_skipped, read_marker, read_threaded}
use Rattle.gfx_text_grammar.specs.Listings.{read_pair, good_header}
use Rattle.gfx_text_grammar.specs.Rows.{read_event}
use Rattle.gfx_text_grammar.specs.Splits.{each_read}
use Rattle.gfx_text_grammar.specs.Styles.{numbered}
use Rattle.gfx_text_grammar.specs.Words.{number_in, raw_in}

-- KEY=VALUE of the option at a place
abbrev pub option_text : List ℕ → ℕ → List ℕ
option_text bytes at = decimal (u32_at bytes at) ++ codes "=" ++ decimal (u32_at bytes (at + 4))

-- the name of a marker
abbrev pub marker_name : Bool → List ℕ
marker_name begin = if begin then codes "begin" else codes "end"

-- whether the marker of this name begins the section, where it is the name of one
abbrev pub begins_section : List ℕ → Option Bool
begins_section name =
    if same_list name (codes "begin") then Some true else if same_list name (codes "end") then Some false else None

-- the block that has the line of these tokens
abbrev pub part_of_tokens : ℕ → List (List ℕ) → Option Part
part_of_tokens m tokens = or_else (read_skipped tokens) (or_else (read_marker m tokens) (read_threaded m tokens))

-- the sixteen bytes that a header of this minor version with so many options begins with
abbrev pub start_of : (minor count : ℕ) → List ℕ
start_of m n = to_le_bytes w32 0x52584647 ++ (to_le_bytes w32 1000 ++ (to_le_bytes w32 m ++ to_le_bytes w32 n))

-- the number below this limit that is in decimal after a prefix
abbrev pub number_after : ℕ → (front text : List ℕ) → Option ℕ
number_after limit front text = without_front front text >>= number_in limit

-- the block of the event of this type and name, with these fields, under a thread
abbrev pub named_block : (m kind thread : ℕ) (name : List ℕ) (fields : List (List ℕ)) → Option Part
named_block m kind thread name fields = read_event numbered m kind name ([], fields) >>= event_block m kind thread

-- the skipped block of this type with the bytes of these digits
abbrev pub skipped_block : (kind : ℕ) (digits : List ℕ) → Option Part
skipped_block kind digits = raw_in digits >>= λ bytes. block_of kind (skipped_payload kind bytes) skipped

-- the header of this minor version with the options of these tokens
abbrev pub header_by : (m : ℕ) (options : List (List ℕ)) → Option (List ℕ)
header_by m options = each_read (whole read_pair) options >>= good_header m
