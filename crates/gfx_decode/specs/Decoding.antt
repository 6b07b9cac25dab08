-- What a decoder answers, by the blocks of the bytes that are left.
use Rattle.std.specs.Prelude.{◌≡◌, ℕ, ◌+◌, ◌*◌, ◌<◌, ◌^◌, false, List, Result, Ok, Err, Some, None, ⊤}
use Rattle.std.specs.declared.option.Option.{Option}
use Rattle.gfx_model.specs.Blocks.{Position, Whole, clean, bad, minor_of, next_position, side_count}
use Rattle.gfx_grammar.specs.Framing.{IsBlock}
use Rattle.gfx_grammar.specs.Splitting.{Blocks, blocks_from, blocks_of, only_end, with_item}
use Rattle.gfx_blocks.specs.Payloads.{content_of}
use Rattle.gfx_blocks.specs.declared.header.Header.{Header}
use Rattle.gfx_decode.specs.Stage.{Stage, Fresh, At, Failed}
use Rattle.gfx_decode.specs.declared.decoder.FramedBlock.{FramedBlock}
use Rattle.gfx_decode.specs.declared.decoder.Raw.{Raw}
use Rattle.gfx_decode.specs.declared.fault.DecodeFault.{DecodeFault}
use Rattle.gfx_decode.specs.declared.fault.DecodeFault.TheVariants.{Bad, ReadFault, WantMemory}
use Rattle.gfx_decode.specs.Reading.{IsFramed}

-- the block, unchanged in the file
abbrev pub item_of : Raw → Whole
item_of raw = record { number = raw.number; offset = raw.offset; bytes = raw.bytes.now; content = content_of raw.block }

-- the blocks that a decoder at this stage finds in these bytes; one that failed finds no others
abbrev pub coming : Stage → List ℕ → Blocks
coming Fresh bytes = blocks_of bytes
coming (At minor at) bytes = blocks_from minor at bytes
coming (Failed (Bad fault block offset)) bytes = only_end (bad fault block offset)
coming (Failed ReadFault) bytes = only_end clean
coming (Failed WantMemory) bytes = only_end clean

-- the stage behind a block
abbrev pub behind : Stage → Raw → Stage
behind Fresh raw = Fresh
behind (At minor at) raw = At minor (next_position at raw.bytes.now)
behind (Failed why) raw = Failed why

-- the answer is the first of the blocks that were coming, or their end
abbrev pub Gives : Stage → Result (Option Raw) DecodeFault → List ℕ → List ℕ → Type 0
Gives stage (Ok (Some raw)) before after = coming stage before ≡ with_item (item_of raw) (coming (behind stage raw) after)
Gives stage (Ok None) before after = coming stage before ≡ only_end clean
Gives stage (Err (Bad fault block offset)) before after = coming stage before ≡ only_end (bad fault block offset)
Gives stage (Err ReadFault) before after = ⊤
Gives stage (Err WantMemory) before after = ⊤

-- the block is where the decoder was; it is whole, spelled so, and has room on its side of the section
pub record IsBlockHere (minor : ℕ) (at : Position) (raw : Raw) : Type 0 where
  pub number : raw.number ≡ at.number
  pub offset : raw.offset ≡ at.offset
  pub block : IsBlock minor raw.bytes.now (content_of raw.block)
  pub counted : side_count at raw.bytes.now < 2 ^ 32

-- the decoder had read the header and had not failed, and the block is where it was
abbrev pub IsBlockAt : Stage → Raw → Type 0
IsBlockAt Fresh raw = ⊥
IsBlockAt (At minor at) raw = IsBlockHere minor at raw
IsBlockAt (Failed why) raw = ⊥

-- the decoder after an answer: behind the block, where it was at the end, and failed from then on
abbrev pub Goes : Stage → Result (Option Raw) DecodeFault → Stage → Type 0
Goes old (Ok (Some raw)) new = new ≡ behind old raw
Goes old (Ok None) new = new ≡ old
Goes old (Err why) new = new ≡ Failed why

-- the block is where the decoder was; its head is in order, its payload is there, and it has room on its side
pub record IsFramedHere (at : Position) (b : FramedBlock) : Type 0 where
  pub number : b.number ≡ at.number
  pub offset : b.offset ≡ at.offset
  pub framed : IsFramed b.framing.kind b.framing.size b.bytes.now
  pub counted : side_count at b.bytes.now < 2 ^ 32

-- the decoder had read the header and had not failed, and such a block is where it was
abbrev pub IsFramedAt : Stage → FramedBlock → Type 0
IsFramedAt Fresh b = ⊥
IsFramedAt (At minor at) b = IsFramedHere at b
IsFramedAt (Failed why) b = ⊥

-- the stage behind it
abbrev pub behind_framed : Stage → FramedBlock → Stage
behind_framed Fresh b = Fresh
behind_framed (At minor at) b = At minor (next_position at b.bytes.now)
behind_framed (Failed why) b = Failed why

-- the decoder after an answer with such a block: behind it, where it was at the end, and failed from then on
abbrev pub GoesFramed : Stage → Result (Option FramedBlock) DecodeFault → Stage → Type 0
GoesFramed old (Ok (Some b)) new = new ≡ behind_framed old b
GoesFramed old (Ok None) new = new ≡ old
GoesFramed old (Err why) new = new ≡ Failed why

-- where the first block stands, behind so many options
abbrev pub start_of : Header → Position
start_of header = record { number = 1; offset = 16 + 8 * header.options; in_section = false; inside = 0; outside = 0 }

-- the header is read, and the blocks are those behind it; or the file breaks a step there
abbrev pub GivesHeader : Result Header DecodeFault → List ℕ → List ℕ → Type 0
GivesHeader (Ok header) before after =
    (blocks_of before ≡ blocks_from header.minor (start_of header) after) × (header.minor ≡ minor_of before)
GivesHeader (Err (Bad fault block offset)) before after = blocks_of before ≡ only_end (bad fault block offset)
GivesHeader (Err ReadFault) before after = ⊤
GivesHeader (Err WantMemory) before after = ⊤

-- the decoder after the header
abbrev pub stage_after : Result Header DecodeFault → Stage
stage_after (Ok header) = At header.minor (start_of header)
stage_after (Err why) = Failed why
