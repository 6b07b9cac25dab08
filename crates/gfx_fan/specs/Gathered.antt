-- Frames that were shown, the lines of which the sink took or an album keeps.
use Rattle.std.specs.Prelude.{◌≡◌, ◌^◌, ◌≤◌, ℕ, false, List, [], ◌∷◌, ◌++◌, length, Err, ⊤}
use Rattle.std.specs.declared.option.Option.{Option}
use Rattle.gfx_types.specs.declared.frame.Frame.{Frame}
use Rattle.gfx_model.specs.Blocks.{Whole}
use Rattle.gfx_frames.proofs.SoFar.{SoFar}
use Rattle.gfx_decode.specs.Stage.{Stage}
use Rattle.gfx_player.specs.declared.asked.Asked.TheVariants as asked
use Rattle.gfx_player.specs.declared.fault.PlayFault.{PlayFault}
use Rattle.gfx_player.specs.declared.fault.PlayFault.TheVariants as play
use Rattle.gfx_player.specs.declared.player.Player.{Player}
use Rattle.gfx_player.specs.Asked.{asked_of}
use Rattle.gfx_player.specs.Walks.{HasRead, HasReplayed, Plays}
use Rattle.gfx_play.specs.Screens.{lines_of}
use Rattle.gfx_play.specs.Shows.{Answers}
use Rattle.gfx_fan.specs.declared.album.Album.{Album}
use Rattle.gfx_fan.specs.Kept.{IsSmall, kept_lines, plain}

-- the lines of all frames of a list
abbrev pub all_lines : ℕ → List Frame → List ℕ
all_lines m shown = lines_of (plain m) (asked_of asked.All shown)

-- these frames were shown; their lines are what the sink took, and what an album keeps
pub record Gathering (p : Player) (k : Album) (shown : List Frame) (file left before after : Option (List ℕ)) : Type 0 where
  pub plays : Plays p shown file left
  pub small : IsSmall k
  pub asked_is : k.screen.asked ≡ asked.All
  pub listing : k.screen.listing ≡ plain p.minor
  pub count : k.screen.count ≡ length (asked_of asked.All shown)
  pub text : SoFar before after (all_lines p.minor shown) (kept_lines k)

-- a player that has read so far, with what it replayed
abbrev pub with_stage : Player → Stage → Player
with_stage p s = record { decoder = s; replayer = p.replayer; minor = p.minor; first = p.first }

-- some frames were shown by what was read so far
abbrev pub IsGathered : Player → Album → Stage → Option (List ℕ) → Option (List ℕ) → Option (List ℕ) → Option (List ℕ) → Type 0
IsGathered p k s file left before after = (shown : List Frame) × Gathering (with_stage p s) k shown file left before after

-- whatever blocks were read before, this one comes next, and they are few
abbrev pub ReadsOn : Player → Stage → Stage → Whole → Option (List ℕ) → Option (List ℕ) → Option (List ℕ) → Type 0
ReadsOn p old new w file left rest = (fed : List Whole) → HasRead (with_stage p old) fed file left → HasRead (with_stage p new) (fed ++ w ∷ []) file rest × (length fed ≤ 2 ^ 33)

-- some blocks were replayed
abbrev pub IsReplaying : Player → Type 0
IsReplaying p = (fed : List Whole) × HasReplayed p fed

-- the answer of a fault, whatever is left of the file
abbrev pub StopsAny : PlayFault → Option (List ℕ) → Option (List ℕ) → List ℕ → List ℕ → Type 0
StopsAny why before after bytes left = (rest : List ℕ) → Answers asked.All false before after (Err why) bytes rest

-- a block is bad, or what is kept isn't written
abbrev pub IsFeedFault : PlayFault → Type 0
IsFeedFault (play.Bad fault block offset) = ⊤
IsFeedFault (play.NoSuchFrame first last) = ⊥
IsFeedFault play.ReadFault = ⊥
IsFeedFault play.SinkFault = ⊤
IsFeedFault play.WantMemory = ⊤
