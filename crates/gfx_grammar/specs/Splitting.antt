-- The blocks of a file, computed: what is at the start, and then the blocks of what follows it.
use Rattle.std.specs.Prelude.{ℕ, zero, suc, ◌+◌, if◌then◌else◌, List, [], ◌∷◌, length, take, drop, Option, Some, None}
use Rattle.gfx_types.specs.declared.names.Fault.{Fault}
use Rattle.gfx_types.specs.declared.names.Fault.TheVariants.{UnknownBlock, BadParams}
use Rattle.gfx_model.specs.Blocks.{header_fault, header_length, minor_of, Position, size_field, type_field, payload_field, framing_fault, Content, is_unknown, Whole, End, clean, bad, next_position, first_position}
use Rattle.gfx_grammar.specs.Rows.{read_content}

-- what is where a block should begin: the end of the list, or a whole block
pub data Front : Type 0 where
  Stops : End → Front
  Finds : Whole → Front

-- the block here breaks a step
abbrev pub breaks : Position → Fault → Front
breaks at f = Stops (bad f at.number at.offset)

-- the step that a payload without content breaks
abbrev pub payload_fault : ℕ → List ℕ → Fault
payload_fault kind bytes = if is_unknown kind bytes then UnknownBlock else BadParams

-- the block of these bytes, here
abbrev pub block_at : Position → List ℕ → Content → Whole
block_at at bytes content = record { number = at.number; offset = at.offset; bytes = bytes; content = content }

-- what its payload makes of the block of these bytes
abbrev pub with_payload : Position → (bytes : List ℕ) (kind : ℕ) (payload : List ℕ) → Option Content → Front
with_payload at bytes kind payload (Some c) = Finds (block_at at bytes c)
with_payload at bytes kind payload None = breaks at (payload_fault kind payload)

-- the block at the start, where its payload says this
abbrev pub with_content : Position → List ℕ → Option Content → Front
with_content at bytes content = with_payload at (take (12 + size_field bytes) bytes) (type_field bytes) (payload_field bytes) content

-- the block, where its framing breaks no step
abbrev pub with_framing : ℕ → Position → List ℕ → Option Fault → Front
with_framing m at bytes (Some f) = breaks at f
with_framing m at bytes None = with_content at bytes (read_content m (type_field bytes) (payload_field bytes))

-- what is at the start in minor version m
unfoldable pub front : ℕ → Position → List ℕ → Front
front m at [] = Stops clean
front m at (b ∷ bytes) = with_framing m at (b ∷ bytes) (framing_fault at (b ∷ bytes))

-- the whole blocks, in order, and how they end
pub record Blocks : Type 0 where
  pub items : List Whole
  pub end : End

-- no block, and this end
abbrev pub only_end : End → Blocks
only_end end = record { items = []; end = end }

-- a whole block, and behind it the others with their end
abbrev pub with_item : Whole → Blocks → Blocks
with_item w rest = record { items = w ∷ rest.items; end = rest.end }

-- the blocks of bytes with this at their front, where these are the blocks of what follows it
abbrev pub after_front : Front → Blocks → Blocks
after_front (Stops e) rest = only_end e
after_front (Finds w) rest = with_item w rest

-- a block takes a byte or more, so as many turns as there are bytes, and one for the end, are enough
unfoldable pub blocks_within : ℕ → ℕ → Position → List ℕ → Blocks
blocks_within zero m at bytes = only_end clean
blocks_within (suc turns) m at bytes =
    after_front (front m at bytes) (blocks_within turns m (next_position at bytes) (drop (12 + size_field bytes) bytes))

-- the blocks of these bytes, the first of which is here
unfoldable pub blocks_from : ℕ → Position → List ℕ → Blocks
blocks_from m at bytes = blocks_within (suc (length bytes)) m at bytes

-- the header counts as block 0, at offset 0
abbrev pub after_header : Option Fault → List ℕ → Blocks
after_header None bytes = blocks_from (minor_of bytes) (first_position bytes) (drop (header_length bytes) bytes)
after_header (Some f) bytes = only_end (bad f 0 0)

-- the blocks of a file
unfoldable pub blocks_of : List ℕ → Blocks
blocks_of bytes = after_header (header_fault bytes) bytes
