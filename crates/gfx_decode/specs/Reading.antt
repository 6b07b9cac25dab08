-- What the reads of one block leave, where what the source has left is told.
use Rattle.std.specs.Prelude.{◌≡◌, ◌⊎◌, ℕ, ◌+◌, ◌*◌, ◌<◌, ◌≤◌, nat_lt, true, false, List, ◌++◌, length, IfSome, None, Some}
use Rattle.std.specs.declared.option.Option.{Option}
use Rattle.std.specs.Io.KnownBytes.{Consumes}
use Rattle.gfx_types.specs.declared.names.Fault.{Fault}
use Rattle.gfx_types.specs.declared.names.Fault.TheVariants.{Truncated}
use Rattle.gfx_model.specs.Blocks.{Position, framing_fault, header_fault, header_length, minor_of, option_count, options_fault, refuse, size_field}
use Rattle.gfx_model.specs.Limits.{max_side_blocks}
use Rattle.gfx_grammar.specs.Framing as framing
use Rattle.gfx_grammar.specs.Splitting.{breaks, front}
use Rattle.gfx_blocks.specs.declared.header.Header.{Header}
use Rattle.gfx_decode.specs.declared.fault.DecodeFault.{DecodeFault}
use Rattle.gfx_decode.specs.declared.fault.DecodeFault.TheVariants.{Bad, ReadFault, WantMemory}

-- some of the bytes that were left were read
abbrev pub ReadsSome : Option (List ℕ) → Option (List ℕ) → Type 0
ReadsSome old new = (bytes : List ℕ) × Consumes old new bytes

-- at most so many of them
abbrev pub ReadsUpTo : ℕ → Option (List ℕ) → Option (List ℕ) → Type 0
ReadsUpTo most old new = (bytes : List ℕ) × Consumes old new bytes × (length bytes ≤ most)

-- the header isn't whole, and what there is of it breaks no step: fewer than 16 bytes, or a start in order and fewer bytes than its options take
abbrev pub IsHeaderCut : List ℕ → Type 0
IsHeaderCut bytes = (length bytes < 16) ⊎ ((framing.start_fault bytes ≡ None) × (length bytes < header_length bytes))

-- a block has room here, whether it begins the state section or not
abbrev pub HasRoom : Position → Type 0
HasRoom at = (framing.side at false < max_side_blocks) ⊎ (framing.side at true < max_side_blocks)

-- a head in order, a block for which there is room, and no more bytes than it says
pub record IsInBlock (at : Position) (bytes : List ℕ) : Type 0 where
  pub head : framing.head_fault bytes ≡ None
  pub room : HasRoom at
  pub within : length bytes ≤ 12 + size_field bytes

-- of the block here no more was read than its head, or no more than it says
abbrev pub ReadsBlock : Position → Option (List ℕ) → Option (List ℕ) → Type 0
ReadsBlock at old new = (bytes : List ℕ) × Consumes old new bytes × ((length bytes ≤ 12) ⊎ IsInBlock at bytes)

-- a head in order, a block for which there is room, and fewer bytes than it says
pub record IsPayloadCut (at : Position) (bytes : List ℕ) : Type 0 where
  pub head : framing.head_fault bytes ≡ None
  pub room : HasRoom at
  pub short : length bytes < 12 + size_field bytes

-- the block here isn't whole, and what there is of it breaks no step: fewer than 12 bytes, or fewer than its size says
abbrev pub IsBlockCut : Position → List ℕ → Type 0
IsBlockCut at bytes = (length bytes < 12) ⊎ IsPayloadCut at bytes

-- why no header came: it breaks a step, or it isn't whole in the bytes that were read
abbrev pub StopsInHeader : Option (List ℕ) → Option (List ℕ) → DecodeFault → Type 0
StopsInHeader old new (Bad fault block offset) = (block ≡ 0) × (offset ≡ 0) × IfSome old (λ bytes. header_fault bytes ≡ Some fault)
StopsInHeader old new ReadFault = (bytes : List ℕ) × Consumes old new bytes × IsHeaderCut bytes
StopsInHeader old new WantMemory = ⊥

-- why no options came, so many of them, behind the start of a header
abbrev pub StopsInOptions : ℕ → Option (List ℕ) → Option (List ℕ) → DecodeFault → Type 0
StopsInOptions count old new (Bad fault block offset) =
    (block ≡ 0) × (offset ≡ 0) × IfSome old (λ rest. refuse (nat_lt (length rest) (8 * count)) Truncated (options_fault rest 0 0 count) ≡ Some fault)
StopsInOptions count old new ReadFault = (part : List ℕ) × Consumes old new part × (length part < 8 * count)
StopsInOptions count old new WantMemory = ⊥

-- some byte is there, and the framing of the block breaks this step, whatever its payload says
abbrev pub IsFramingFault : Position → List ℕ → Fault → Type 0
IsFramingFault at bytes fault = (0 < length bytes) × (framing_fault at bytes ≡ Some fault)

-- why no framed block came here
abbrev pub StopsFraming : Position → Option (List ℕ) → Option (List ℕ) → DecodeFault → Type 0
-- its framing breaks a step
StopsFraming at old new (Bad fault block offset) =
    (block ≡ at.number) × (offset ≡ at.offset) × IfSome old (λ bytes. IsFramingFault at bytes fault)
-- it isn't whole in the bytes that were read
StopsFraming at old new ReadFault = (bytes : List ℕ) × Consumes old new bytes × IsBlockCut at bytes
StopsFraming at old new WantMemory = Unit {0}

-- why no block came here, in a file of minor version m
abbrev pub StopsAt : ℕ → Position → Option (List ℕ) → Option (List ℕ) → DecodeFault → Type 0
-- the block breaks a step
StopsAt m at old new (Bad fault block offset) =
    (block ≡ at.number) × (offset ≡ at.offset) × IfSome old (λ bytes. front m at bytes ≡ breaks at fault)
-- it isn't whole in the bytes that were read
StopsAt m at old new ReadFault = (bytes : List ℕ) × Consumes old new bytes × IsBlockCut at bytes
StopsAt m at old new WantMemory = Unit {0}

-- the first step that a block with a payload that is cut short breaks: it counts outside the section that it may begin
abbrev pub IsCutFault : Position → Fault → Type 0
IsCutFault at fault = (framing.count_fault at false ≡ Some fault) ⊎ ((framing.count_fault at false ≡ None) × (fault ≡ Truncated))

-- why no payload of this size came
abbrev pub StopsInPayload : ℕ → Position → Option (List ℕ) → Option (List ℕ) → DecodeFault → Type 0
StopsInPayload size at old new (Bad fault block offset) =
    (block ≡ at.number) × (offset ≡ at.offset) × IsCutFault at fault × IfSome old (λ rest. length rest < size)
StopsInPayload size at old new ReadFault = (part : List ℕ) × Consumes old new part × (length part < size)
StopsInPayload size at old new WantMemory = Unit {0}

-- why fewer bytes came than were asked for
abbrev pub StopsShort : ℕ → Option (List ℕ) → Option (List ℕ) → DecodeFault → Type 0
StopsShort most old new (Bad fault block offset) = ⊥
StopsShort most old new ReadFault = (part : List ℕ) × Consumes old new part × (length part < most)
StopsShort most old new WantMemory = Unit {0}

-- why the bytes of a block give none, whatever follows them
abbrev pub StopsInBytes : ℕ → Position → List ℕ → DecodeFault → Type 0
StopsInBytes m at bytes (Bad fault block offset) =
    (block ≡ at.number) × (offset ≡ at.offset) × ((rest : List ℕ) → front m at (bytes ++ rest) ≡ breaks at fault)
StopsInBytes m at bytes ReadFault = ⊥
StopsInBytes m at bytes WantMemory = Unit {0}

-- the bytes are a block's head in order, and a payload of the size that it says
pub record IsFramed (kind size : ℕ) (bytes : List ℕ) : Type 0 where
  pub head : List ℕ
  pub payload : List ℕ
  pub parts : bytes ≡ head ++ payload
  pub good : framing.IsHead kind size head
  pub long : length payload ≡ size

-- the bytes are a header in order, which says this
pub record IsHeader (header : Header) (bytes : List ℕ) : Type 0 where
  pub good : framing.IsHeader bytes
  pub minor : header.minor ≡ minor_of bytes
  pub options : header.options ≡ option_count bytes
