-- What the payload of a block says.
use Rattle.std.specs.Prelude.{◌≡◌, ◌≢◌, ℕ, List, Option, Some, None, Result, Ok, Err}
use Rattle.gfx_types.specs.declared.effect.Block.{Block}
use Rattle.gfx_types.specs.declared.effect.Block.TheVariants as block
use Rattle.gfx_model.specs.Events.{Event, event_of}
use Rattle.gfx_model.specs.Blocks.{Content, skipped, effect}
use Rattle.gfx_grammar.specs.Reading.{read_u64}
use Rattle.gfx_grammar.specs.Rows.{exactly, read_content}
use Rattle.gfx_grammar.specs.Splitting.{payload_fault}
use Rattle.gfx_blocks.specs.declared.payload.BlockFault.{BlockFault}
use Rattle.gfx_blocks.specs.declared.payload.BlockFault.TheVariants.{Bad, WantMemory}

-- a block without where its bytes lie
abbrev pub content_of : Block → Content
content_of (block.Effect thread of_block) = effect thread (event_of of_block)
content_of block.Skip = skipped

-- the payload of this type says what the answer is, or it says nothing, for the answered fault; memory is needed only
-- for what a payload says
abbrev pub SaysOrFails : Result Block BlockFault → (kind : ℕ) (payload : List ℕ) → Option Content → Type 0
SaysOrFails (Ok found) kind payload said = said ≡ Some (content_of found)
SaysOrFails (Err (Bad fault)) kind payload said = (said ≡ None) × (fault ≡ payload_fault kind payload)
SaysOrFails (Err WantMemory) kind payload said = said ≢ None

-- what a block of this type with this payload says in minor version m, or why it says nothing
abbrev pub Says : Result Block BlockFault → (m kind : ℕ) → List ℕ → Type 0
Says answer m kind payload = SaysOrFails answer kind payload (read_content m kind payload)

-- whatever event is built of eight bytes, the bytes are this number
abbrev pub IsNumber : List ℕ → ℕ → Type 0
IsNumber bytes n = (build : ℕ → Event) → exactly build read_u64 bytes ≡ Some (build n)

-- or they are none
abbrev pub IsNoNumber : List ℕ → Type 0
IsNoNumber bytes = (build : ℕ → Event) → exactly build read_u64 bytes ≡ None
