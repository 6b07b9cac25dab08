-- What single lines of a listing list.
use Rattle.std.specs.Prelude.{◌≡◌, ◌⊎◌, ◌<◌, ℕ, ◌+◌, true, false, List, [], ◌++◌, Some, None, Result, Ok, Err, ⊤}
use Rattle.gfx_model.specs.Blocks.{Content, Position, minor_of, next_position, side_count}
use Rattle.gfx_model.specs.Limits.{max_side_blocks}
use Rattle.gfx_model.specs.Text.{line}
use Rattle.gfx_grammar.specs.Framing.{IsBlock, IsHeader, Part}
use Rattle.gfx_decode.specs.Reachable.{IsInReach}
use Rattle.gfx_listing.specs.declared.fault.LineFault.{LineFault}
use Rattle.gfx_listing.specs.declared.fault.LineFault.TheVariants as of_line
use Rattle.gfx_text_grammar.specs.Lines.{read_line}
use Rattle.gfx_text_grammar.specs.Listings.{read_header}
use Rattle.gfx_text_grammar.specs.Splits.{is_without}
use Rattle.gfx_list.specs.Unlists.{UnlistsBy}
use Rattle.gfx_list.specs.declared.fault.UnlistFault.{UnlistFault}
use Rattle.gfx_list.specs.declared.fault.UnlistFault.TheVariants.{BadListing, ReadFault, SinkFault, WantMemory}

-- the fault of a line of this number
abbrev pub fault_of : ℕ → LineFault → UnlistFault
fault_of number of_line.BadLine = BadListing number
fault_of number of_line.WantMemory = WantMemory

-- where the first block follows a header of so many bytes
abbrev pub first_place : ℕ → Position
first_place long = record { number = 1; offset = long; in_section = false; inside = 0; outside = 0 }

-- the bytes are the header that has this line, and this is its minor version
pub record TakesHeader (line bytes : List ℕ) (minor : ℕ) : Type 0 where
  pub read : read_header line ≡ Some bytes
  pub minor_is : minor ≡ minor_of bytes
  pub version : (minor ≡ 1) ⊎ (minor ≡ 2)

-- the bytes are a header in order, and this is its minor version
pub record IsHeaderOf (minor : ℕ) (bytes : List ℕ) : Type 0 where
  pub good : IsHeader bytes
  pub minor_is : minor ≡ minor_of bytes
  pub version : (minor ≡ 1) ⊎ (minor ≡ 2)

-- why the first line gave no header
abbrev pub IsNoHeader : List ℕ → UnlistFault → Type 0
IsNoHeader line (BadListing number) = (number ≡ 1) × (read_header line ≡ None)
IsNoHeader line ReadFault = ⊥
IsNoHeader line SinkFault = ⊥
IsNoHeader line WantMemory = ⊤

-- the bytes are a block of some minor version
abbrev pub IsSomeBlock : List ℕ → Type 0
IsSomeBlock bytes = (m : ℕ) × (content : Content) × IsBlock m bytes content

-- the block that has this line was appended, and has room here
pub record TakesBlock (m : ℕ) (at : Position) (line old new : List ℕ) (next : Position) : Type 0 where
  pub part : Part
  pub read : read_line m line ≡ Some part
  pub counted : side_count at part.bytes < max_side_blocks
  pub behind : next ≡ next_position at part.bytes
  pub reach : IsInReach next
  pub grown : new ≡ old ++ part.bytes

-- no block has this line, or there is no room for it here
abbrev pub HasNoBlock : ℕ → Position → List ℕ → Type 0
HasNoBlock m at line = (part : Part) → read_line m line ≡ Some part → side_count at part.bytes < max_side_blocks → ⊥

-- why a line gave no block
abbrev pub IsNoBlock : ℕ → Position → List ℕ → UnlistFault → Type 0
IsNoBlock m at line (BadListing number) = (number ≡ at.number + 1) × HasNoBlock m at line
IsNoBlock m at line ReadFault = ⊥
IsNoBlock m at line SinkFault = ⊥
IsNoBlock m at line WantMemory = ⊤

-- the first line of the text was read, and the header that has it is held
pub record IsOpened (minor : ℕ) (held pending text left : List ℕ) : Type 0 where
  pub first : List ℕ
  pub takes : TakesHeader first held minor
  pub without : is_without 10 first ≡ true
  pub parts : text ≡ line first ++ (pending ++ left)

-- bytes of which there are none
abbrev pub IsNothing : List ℕ → Type 0
IsNothing bytes = bytes ≡ []

-- the header was read, or why there is none: then nothing was taken
abbrev pub Opens : (held pending : List ℕ) → Result ℕ UnlistFault → List ℕ → List ℕ → Type 0
Opens held pending (Ok minor) text left = IsOpened minor held pending text left
Opens held pending (Err why) text left = UnlistsBy IsNothing IsNothing (Err why) text left
