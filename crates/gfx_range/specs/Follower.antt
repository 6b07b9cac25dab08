-- What a follower stands for, and what a block does to it.
use Rattle.std.specs.Prelude.{◌≡◌, ⊤, ℕ, true, List, [], Option, Some, None, option_map}
use Rattle.gfx_types.specs.declared.op.Op.{Op}
use Rattle.gfx_model.specs.Events.{Event}
use Rattle.gfx_model.specs.Blocks.{Content, Whole}
use Rattle.gfx_model.specs.Blocks.Content.{skipped, effect}
use Rattle.gfx_model.specs.Frames.{frames}
use Rattle.gfx_model.specs.History.{fault, is_valid, view}
use Rattle.gfx_model.specs.Meaning.{content_fault, content_onto}
use Rattle.gfx_model.specs.Views.{View}
use Rattle.gfx_tracker.specs.Tracker.{answers}
use Rattle.gfx_tracker.specs.Operations.{ops_of}
use Rattle.gfx_tracker.specs.declared.outcome.ApplyFault.{ApplyFault}
use Rattle.gfx_tracker.specs.declared.outcome.ApplyFault.TheVariants as apply
use Rattle.gfx_replay.specs.Fed.{frame_by}
use Rattle.gfx_player.specs.Meanings.{first_of}
use Rattle.gfx_player.specs.declared.fault.PlayFault.{PlayFault}
use Rattle.gfx_player.specs.declared.fault.PlayFault.TheVariants as play
use Rattle.gfx_range.specs.declared.follower.Follower.{Follower}

-- a follower follows this history, which has no fault
pub record Follows (f : Follower) (h : List Event) : Type 0 where
  pub valid : is_valid h ≡ true
  pub same : answers f.tracker ≡ view h
  pub first : f.first ≡ first_of (frames h)

-- what a block says was taken: it breaks no rule, and shows the frame of this number, if one
pub record Followed (f : Follower) (h : List Event) (c : Content) (number : Option ℕ) : Type 0 where
  pub follows : Follows f (content_onto c h)
  pub fine : content_fault h c ≡ None
  pub shows : number ≡ option_map (λ f. f.number) (frame_by h c)

-- a follower that follows what it did
abbrev pub IsSameFollower : Follower → Follower → Type 0
IsSameFollower old new = (answers new.tracker ≡ answers old.tracker) × (new.first ≡ old.first)

-- the operations of what a block says
abbrev pub ops_said : View → Content → List Op
ops_said v skipped = []
ops_said v (effect thread event) = ops_of v event

-- why an effect is not taken: by its rule fault, or when out of memory
abbrev pub RefusesEffect : List Event → Event → ApplyFault → Type 0
RefusesEffect h e (apply.Rule found) = fault h e ≡ Some found
RefusesEffect h e apply.WantMemory = ⊤

-- why a block is not taken: by its rule fault, or when out of memory
abbrev pub Refuses : List Event → Whole → PlayFault → Type 0
Refuses h w (play.Bad found block offset) = (block ≡ w.number) × (offset ≡ w.offset) × (content_fault h w.content ≡ Some found)
Refuses h w (play.NoSuchFrame first last) = ⊥
Refuses h w play.ReadFault = ⊥
Refuses h w play.SinkFault = ⊥
Refuses h w play.WantMemory = ⊤
