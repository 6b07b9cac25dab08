-- What a player stands for.
use Rattle.std.specs.Prelude.{◌≡◌, ℕ, ◌+◌, ◌^◌, ◌≤◌, List, [], ◌∷◌, ◌++◌, length, Option, Some, None, unwrap_or}
use Rattle.std.specs.List.{AllByRecursion}
use Rattle.gfx_types.specs.declared.effect.Block.{Block}
use Rattle.gfx_types.specs.declared.names.Fault.{Fault}
use Rattle.gfx_types.specs.declared.frame.Frame.{Frame}
use Rattle.gfx_io.specs.Told.{IfTold}
use Rattle.gfx_model.specs.Events.{Event}
use Rattle.gfx_model.specs.Blocks.{Position, Whole, minor_of}
use Rattle.gfx_model.specs.Blocks.End.{clean}
use Rattle.gfx_model.specs.Frames.{frames}
use Rattle.gfx_model.specs.History.{view}
use Rattle.gfx_model.specs.Meaning.{content_fault}
use Rattle.gfx_blocks.specs.Payloads.{content_of}
use Rattle.gfx_tracker.specs.Tracker.{answers}
use Rattle.gfx_replay.specs.Fed.{AreShown, frame_by}
use Rattle.gfx_replay.specs.Replayer.{StandsFor, bytes_of}
use Rattle.gfx_replay.specs.Shown.{IsThere, frame_of}
use Rattle.gfx_replay.specs.declared.shown.ShownFrame.{ShownFrame}
use Rattle.gfx_decode.specs.Reachable.{IsBehind}
use Rattle.gfx_decode.specs.Stage.{At}
use Rattle.gfx_player.specs.declared.player.Player.{Player}
use Rattle.gfx_player.specs.declared.fault.PlayFault.{PlayFault}
use Rattle.gfx_player.specs.declared.fault.PlayFault.TheVariants.{Bad, NoSuchFrame, ReadFault, SinkFault, WantMemory}
use Rattle.gfx_player.specs.Ends.{IsBehindFrame, ShowsJust}
use Rattle.gfx_player.specs.Fed.{IsFed, history_of}
use Rattle.gfx_player.specs.Meanings.{first_of, history_in}

-- ---- block by block

-- these blocks were replayed
pub record HasReplayed (p : Player) (fed : List Whole) : Type 0 where
  pub replays : StandsFor p.replayer (history_of fed)
  pub first : p.first ≡ first_of (frames (history_of fed))

-- these blocks were read of a file, `file` being what the source had left before and `left` what it has left now
pub record HasRead (p : Player) (fed : List Whole) (file left : Option (List ℕ)) : Type 0 where
  pub place : IsBehind (length fed) p.decoder
  pub told : IfTold file left (λ bytes rest. IsFed fed p.decoder bytes rest × (p.minor ≡ minor_of bytes))

-- a player is before a block, in a file of its minor version
pub record IsAtBlock (p : Player) : Type 0 where
  pub at : Position
  pub place : p.decoder ≡ At p.minor at
  pub low : 1 ≤ p.minor
  pub high : p.minor ≤ 2

-- what was replayed is as it was
pub record IsReplayedAlike (old new : Player) : Type 0 where
  pub replayer : new.replayer ≡ old.replayer
  pub first : new.first ≡ old.first
  pub minor : new.minor ≡ old.minor

-- what was read is as it was
pub record IsReadAlike (old new : Player) : Type 0 where
  pub decoder : new.decoder ≡ old.decoder
  pub minor : new.minor ≡ old.minor

-- a block was replayed behind these, which breaks no rule, and what is shown is its frame
pub record Replays (new : Player) (fed : List Whole) (w : Whole) (shown : Option ShownFrame) : Type 0 where
  pub replayed : HasReplayed new (fed ++ w ∷ [])
  pub shows : AreShown (bytes_of new.replayer) shown (frame_by (history_of fed) w.content)
  pub fine : content_fault (history_of fed) w.content ≡ None

-- a block that says this, in its place
abbrev pub whole_of : ℕ → ℕ → List ℕ → Block → Whole
whole_of number offset bytes block = record { number = number; offset = offset; bytes = bytes; content = content_of block }

-- why a block is not taken behind this history: by its rule fault, or for a write or memory
abbrev pub Refuses : List Event → Whole → PlayFault → Type 0
Refuses h w (Bad fault block offset) = (block ≡ w.number) × (offset ≡ w.offset) × (content_fault h w.content ≡ Some fault)
Refuses h w (NoSuchFrame first last) = ⊥
Refuses h w ReadFault = ⊥
Refuses h w SinkFault = content_fault h w.content ≡ None
Refuses h w WantMemory = content_fault h w.content ≡ None

-- the rule fault of a block, as the walk tells it
abbrev pub told_of : Whole → Option Fault → Option PlayFault
told_of w None = None
told_of w (Some fault) = Some (Bad fault w.number w.offset)

-- the number of the next frame
abbrev pub next_frame_of : Player → ℕ
next_frame_of p = (answers p.replayer.tracker).next_frame

-- the number of the first frame that was shown, or of the next one where none was
abbrev pub first_frame_of : Player → ℕ
first_frame_of p = unwrap_or p.first (next_frame_of p)

-- ---- frame by frame

-- blocks of a file were read and replayed, which show these frames
pub record Plays (p : Player) (shown : List Frame) (file left : Option (List ℕ)) : Type 0 where
  pub fed : List Whole
  pub replayed : HasReplayed p fed
  pub read : HasRead p fed file left
  pub shows : frames (history_of fed) ≡ shown
  pub few : length shown ≤ length fed
  pub bound : length fed ≤ 2 ^ 33 + 1

-- the next frame is shown behind these: its images are there, and what is left follows its block
pub record ShowsNext (p : Player) (shown : List Frame) (frame : ShownFrame) (file left : Option (List ℕ)) : Type 0 where
  pub plays : Plays p (shown ++ frame_of (bytes_of p.replayer) frame ∷ []) file left
  pub there : AllByRecursion (IsThere (bytes_of p.replayer)) frame.pictures.items
  pub behind : IfTold file left (IsBehindFrame shown (frame_of (bytes_of p.replayer) frame))

-- a file was read to its clean end, and shows just these frames
pub record HasAll (p : Player) (shown : List Frame) (bytes left : List ℕ) : Type 0 where
  pub just : ShowsJust shown clean bytes
  pub first : p.first ≡ first_of shown
  pub next : next_frame_of p ≡ (view (history_in bytes)).next_frame
  pub read : left ≡ []
