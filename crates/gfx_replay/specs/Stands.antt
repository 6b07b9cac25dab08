-- The places of a replay, as a history leaves them.
use Rattle.std.specs.Prelude.{◌≡◌, true, List}
use Rattle.gfx_types.specs.declared.op.Place.{Place}
use Rattle.gfx_model.specs.Events.{Event}
use Rattle.gfx_model.specs.Steps.{Change}
use Rattle.gfx_model.specs.Views.{View}
use Rattle.gfx_model.specs.History.{view, is_valid, executed}
use Rattle.gfx_replay.specs.Held.{Bytes, Holds}
use Rattle.gfx_replay.specs.Ranges.{sizes_of}
use Rattle.gfx_replay.specs.Sizes.{place_size}

-- The places are those of the answers, and have the bytes that the changes left.
pub record ArePlacesOf (b : Bytes) (v : View) (es : List Change) : Type 0 where
  pub sizes : (at : Place) → sizes_of b at ≡ place_size v at
  pub held : Holds b es

-- The answers and the places are as after a history without a fault.
pub record Stands (answers : View) (b : Bytes) (h : List Event) : Type 0 where
  pub valid : is_valid h ≡ true
  pub answers_same : answers ≡ view h
  pub places : ArePlacesOf b (view h) (executed h)

-- a history after which the answers and the places are so
pub record Stood (answers : View) (b : Bytes) : Type 0 where
  pub history : List Event
  pub stands : Stands answers b history

-- the answers and the places are as after some history without a fault
abbrev pub HasStood : View → Bytes → Type 0
HasStood answers b = ∥ Stood answers b ∥₁
