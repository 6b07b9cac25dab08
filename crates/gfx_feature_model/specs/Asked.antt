-- Which bytes of the state before a range of events the frames of the range ask for, from the last event back to the first.
use Rattle.std.specs.Prelude.{ℕ, ◌+◌, ◌-◌, Bool, false, not, ◌&&◌, ◌||◌, List, [], ◌∷◌, length, nat_lt}
use Rattle.std.specs.List.{list_any}
use Rattle.std.specs.Option.{option_map_or}
use Rattle.gfx_types.specs.declared.op.Place.{Place}
use Rattle.gfx_types.specs.declared.op.Place.TheVariants as place
use Rattle.gfx_model.specs.Events.{Event}
use Rattle.gfx_model.specs.Events.Event.{QueuePresentKHR}
use Rattle.gfx_model.specs.Steps.{Change}
use Rattle.gfx_model.specs.Steps.Change.{put, fill, copy, set_layout}
use Rattle.gfx_model.specs.Questions.{executed_changes}
use Rattle.gfx_model.specs.Views.{size_of, image_at}
use Rattle.gfx_model.specs.Bytes.{same_place, covers_byte}
use Rattle.gfx_model.specs.Effects.{steps_of}
use Rattle.gfx_model.specs.History.{onto, view}

-- questions for bytes of places
abbrev pub Questions : Type 0
Questions = Place → ℕ → Bool

-- the questions that a change passes on: those that it does not answer, and for a copy those for what it copied
abbrev pub below : Change → Questions → Questions
below (put to offset bytes) asked at j = asked at j && not (covers_byte to offset (length bytes) at j)
below (fill to offset n word) asked at j = asked at j && not (covers_byte to offset n at j)
below (copy to to_offset source source_offset n) asked at j =
    (asked at j && not (covers_byte to to_offset n at j)) || (covers_byte source source_offset n at j && asked to (to_offset + (j - source_offset)))
below (set_layout image layout) asked at j = asked at j

-- the questions that changes pass on, the newest change first
abbrev pub below_all : List Change → Questions → Questions
below_all [] asked = asked
below_all (c ∷ cs) asked = below_all cs (below c asked)

-- the changes of an event, the newest first
abbrev pub event_changes : List Event → Event → List Change
event_changes h e = executed_changes (onto (steps_of (view h) e) [])

-- a byte of an image that an event shows
abbrev pub shown_at : List Event → Event → Questions
shown_at h (QueuePresentKHR queue waits presents) at j =
    list_any (λ p. option_map_or (λ image. same_place (place.Image image) at && nat_lt j (size_of (view h) image)) (image_at (view h) p.swapchain p.index) false) presents
shown_at h _ at j = false

-- The questions of a range that goes on after a history: what each event shows, and what its changes pass on of the
-- questions behind it.
abbrev pub asked_by : List Event → List Event → Questions
asked_by h [] at j = false
asked_by h (e ∷ range) at j = shown_at h e at j || below_all (event_changes h e) (asked_by (e ∷ h) range) at j
