-- Blocks that were read and are decoded together.
use Rattle.std.specs.Prelude.{◌≡◌, ◌⊎◌, ◌+◌, ◌*◌, ◌<◌, ◌≤◌, ◌^◌, ℕ, List, [], ◌∷◌, ◌++◌, drop, length, None, Ok, Err}
use Rattle.std.specs.declared.option.Option.{Option}
use Rattle.std.specs.Option.{option_map}
use Rattle.std.specs.List.{sum_by}
use Rattle.std.specs.Io.KnownBytes.{Consumes, IsAtEnd}
use Rattle.gfx_io.specs.Told.{IfTold}
use Rattle.gfx_model.specs.Blocks.{Position, next_position, side_count}
use Rattle.gfx_decode.specs.Decoding.{Gives}
use Rattle.gfx_decode.specs.Reading.{IsFramed, StopsAt}
use Rattle.gfx_decode.specs.Stage.{Stage, At}
use Rattle.gfx_decode.specs.declared.decoder.FramedBlock.{FramedBlock}
use Rattle.gfx_player.specs.declared.player.Player.{Player}
use Rattle.gfx_fan.specs.declared.album.Album.{Album}
use Rattle.gfx_fan.specs.declared.decode.Framed.{Framed}
use Rattle.gfx_fan.specs.declared.group.Ending.{Ending}
use Rattle.gfx_fan.specs.declared.group.Ending.TheVariants.{Full, Clean, Stopped}
use Rattle.gfx_fan.specs.declared.group.Group.{Group}
use Rattle.gfx_fan.specs.declared.group.Spot.{Spot}
use Rattle.gfx_fan.specs.Gathered.{IsGathered}

-- where the payload of a block lies whose bytes begin at `from`
abbrev pub framed_at : ℕ → FramedBlock → Framed
framed_at from b = record { at = from + 12; framing = b.framing }

-- where the block is in its file
abbrev pub spot_of : FramedBlock → Spot
spot_of b = record { number = b.number; offset = b.offset }

-- a block here, as a group has it, where its bytes begin at `from`
pub record IsKept (at : Position) (from : ℕ) (block : List ℕ) (f : Framed) (s : Spot) : Type 0 where
  pub framed : IsFramed f.framing.kind f.framing.size block
  pub counted : side_count at block < 2 ^ 32
  pub few : at.number ≤ 2 ^ 33 + 1
  pub place : f.at ≡ from + 12
  pub number : s.number ≡ at.number
  pub offset : s.offset ≡ at.offset

-- the bytes, which begin at `from`, are these blocks, one after another, the first of them here, and `end` is behind the last
abbrev pub AreKept : Position → ℕ → List ℕ → List Framed → List Spot → Position → Type 0
AreKept at from bytes [] [] end = (bytes ≡ []) × (end ≡ at)
AreKept at from bytes [] (s ∷ ss) end = ⊥
AreKept at from bytes (f ∷ fs) [] end = ⊥
AreKept at from bytes (f ∷ fs) (s ∷ ss) end =
    (block : List ℕ) × (rest : List ℕ) × (bytes ≡ block ++ rest) × IsKept at from block f s × AreKept (next_position at block) (from + length block) rest fs ss end

-- the blocks of a group
abbrev pub HasBlocks : Group → Position → Position → Type 0
HasBlocks g at end = AreKept at 0 g.bytes.items g.places.items g.spots.items end

-- the bytes of payloads
abbrev pub payload_bytes : List Framed → ℕ
payload_bytes fs = sum_by (λ f. f.framing.size) fs

-- a group has at most 65,536 blocks, and keeps twelve bytes beside the payload of each; the payloads before the last have less than 2^22 bytes, and no payload has more than 2^27
pub record IsLimited (g : Group) : Type 0 where
  pub few : length g.places.items ≤ 65536
  pub long : length g.bytes.items ≡ 12 * length g.places.items + payload_bytes g.places.items
  pub small : payload_bytes g.places.items < 2 ^ 22 + 2 ^ 27

-- it has as many blocks as it may have, or their payloads 2^22 bytes or more
abbrev pub IsFull : Group → Type 0
IsFull g = (65536 ≤ length g.places.items) ⊎ (2 ^ 22 ≤ payload_bytes g.places.items)

-- why there is no further block in a group, where the next would stand: enough were read, the file ends, or the next has a fault
abbrev pub Ends : ℕ → Position → Ending → Stage → Option (List ℕ) → Option (List ℕ) → Type 0
Ends m end Full stage old new = (stage ≡ At m end) × (new ≡ old)
Ends m end Clean stage old new = IfTold old new (Gives (At m end) (Ok None)) × IsAtEnd new
Ends m end (Stopped why) stage old new = IfTold old new (Gives (At m end) (Err why)) × StopsAt m end old new why

-- the blocks of a group were read, and then there is no further one
pub record AreRead (m : ℕ) (at : Position) (g : Group) (ending : Ending) (stage : Stage) (old new : Option (List ℕ)) : Type 0 where
  pub end : Position
  pub middle : Option (List ℕ)
  pub blocks : HasBlocks g at end
  pub took : Consumes old middle g.bytes.items
  pub ends : Ends m end ending stage middle new

-- bytes before what is left
abbrev pub held : List ℕ → Option (List ℕ) → Option (List ℕ)
held bytes left = option_map (λ rest. bytes ++ rest) left

-- the first i blocks of a group were fed, and the others are left
pub record Remains (m : ℕ) (p : Player) (k : Album) (g : Group) (i : ℕ) (end : Position) (file middle before after : Option (List ℕ)) : Type 0 where
  pub at : Position
  pub front : List ℕ
  pub rest : List ℕ
  pub parts : g.bytes.items ≡ front ++ rest
  pub kept : AreKept at (length front) rest (drop i g.places.items) (drop i g.spots.items) end
  pub gathered : IsGathered p k (At m at) file (held rest middle) before after
