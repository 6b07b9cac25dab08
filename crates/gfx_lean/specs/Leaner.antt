-- What a leaner stands for, and what a block does to it.
use Rattle.std.specs.Prelude.{◌≡◌, ◌⊎◌, ℕ, Bool, true, false, List, [], ◌∷◌, ◌++◌, flat_map, Option}
use Rattle.std.specs.Io.KnownBytes.{Appends}
use Rattle.gfx_io.specs.Pieces.{AppendsPart}
use Rattle.gfx_model.specs.Events.{Event}
use Rattle.gfx_model.specs.Blocks.{Whole}
use Rattle.gfx_model.specs.Trimmed.{boundary, history_to, range_from}
use Rattle.gfx_feature_model.specs.Lean.{Keep, KeepsNeeded, events_in}
use Rattle.gfx_replay.specs.Replayer.{StandsFor}
use Rattle.gfx_player.specs.Fed.{history_of}
use Rattle.gfx_player.specs.Walks.{HasReplayed}
use Rattle.gfx_player.specs.declared.fault.PlayFault.{PlayFault}
use Rattle.gfx_player.specs.declared.fault.PlayFault.TheVariants as play
use Rattle.gfx_player.specs.declared.player.Player.{Player}
use Rattle.gfx_range.specs.Follower.{Follows}
use Rattle.gfx_range.specs.Range.{IsFresh, IsGathered}
use Rattle.gfx_range.specs.declared.range.Range.{Range}
use Rattle.gfx_trim.specs.Cutters.{Ends}
use Rattle.gfx_trim.specs.Phases.{IsPhase}
use Rattle.gfx_trim.specs.declared.phase.Phase.{Phase}
use Rattle.gfx_trim.specs.declared.phase.Phase.TheVariants as phase
use Rattle.gfx_lean.specs.Written.{lean_text}
use Rattle.gfx_lean.specs.declared.leaner.Leaner.{Leaner}

-- the state before the range was replayed, and its blocks so far were gathered
pub record HasRangeOf (first : ℕ) (r : Range) (p : Player) (fed : List Whole) : Type 0 where
  pub replays : StandsFor p.replayer (history_to (boundary first fed))
  pub gathered : IsGathered r (history_to (boundary first fed)) (boundary first fed).rest

-- what was replayed and gathered, by how far the cut is
abbrev pub IsGathering : Phase → ℕ → Range → Player → List Whole → Type 0
IsGathering phase.Before first r p fed = HasReplayed p fed × IsFresh r
IsGathering phase.Waiting first r p fed = HasReplayed p fed × IsFresh r
IsGathering phase.Writing first r p fed = HasRangeOf first r p fed

-- these blocks were taken
pub record IsAfter (c : Leaner) (p : Player) (fed : List Whole) : Type 0 where
  pub follows : Follows c.follower (history_of fed)
  pub phase : IsPhase c.phase c.first c.last c.range.blocks.items fed
  pub gathers : IsGathering c.phase c.first c.range p fed

-- these blocks were taken, those of the range among them
pub record IsFollowed (c : Leaner) (p : Player) (fed : List Whole) : Type 0 where
  pub follows : Follows c.follower (history_of fed)
  pub has : HasRangeOf c.first c.range p fed

-- the same range of a file of the same version
pub record IsOfSameRange (old new : Leaner) : Type 0 where
  pub first : new.first ≡ old.first
  pub last : new.last ≡ old.last
  pub minor : new.minor ≡ old.minor

-- a block was taken, and the cut goes on behind it
pub record GoesOn (old new : Leaner) (p : Player) (fed : List Whole) (w : Whole) : Type 0 where
  pub after : IsAfter new p (fed ++ w ∷ [])
  pub range : IsOfSameRange old new

-- the last block of the range was taken, and all of them were gathered
pub record IsWhole (old new : Leaner) (p : Player) (fed : List Whole) (w : Whole) : Type 0 where
  pub ends : Ends old.first old.last fed w
  pub has : HasRangeOf old.first new.range p (fed ++ w ∷ [])
  pub all : range_from old.last (boundary old.first (fed ++ w ∷ [])) ≡ (boundary old.first (fed ++ w ∷ [])).rest
  pub range : IsOfSameRange old new

-- a block was taken, and it was the last of the range or not
abbrev pub Takes : Bool → Leaner → Leaner → Player → List Whole → Whole → Type 0
Takes true old new p fed w = IsWhole old new p fed w
Takes false old new p fed w = GoesOn old new p fed w

-- a sink took the blocks of a range behind just what they need of the history before them
pub record Wrote (m first : ℕ) (h : List Event) (ws : List Whole) (before after : Option (List ℕ)) : Type 0 where
  pub keep : Keep
  pub keeps : KeepsNeeded h (events_in ws) keep
  pub file : Appends before after (lean_text m keep h first (flat_map (λ w. w.bytes) ws))

-- or a prefix of that
pub record WrotePart (m first : ℕ) (h : List Event) (ws : List Whole) (before after : Option (List ℕ)) : Type 0 where
  pub keep : Keep
  pub keeps : KeepsNeeded h (events_in ws) keep
  pub file : AppendsPart before after (lean_text m keep h first (flat_map (λ w. w.bytes) ws))

-- what a write that failed left: a prefix of the file, or nothing when out of memory
abbrev pub IsFailed : (m first : ℕ) → List Event → List Whole → Option (List ℕ) → Option (List ℕ) → PlayFault → Type 0
IsFailed m first h ws before after (play.Bad fault block offset) = ⊥
IsFailed m first h ws before after (play.NoSuchFrame low high) = ⊥
IsFailed m first h ws before after play.ReadFault = ⊥
IsFailed m first h ws before after play.SinkFault = WrotePart m first h ws before after
IsFailed m first h ws before after play.WantMemory = (after ≡ before) ⊎ WrotePart m first h ws before after
