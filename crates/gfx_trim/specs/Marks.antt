-- Markers that end a section.
use Rattle.std.specs.Prelude.{ℕ, ◌==◌, Bool, false}
use Rattle.gfx_model.specs.Events.{Event}
use Rattle.gfx_model.specs.Events.Event.{EndSection}
use Rattle.gfx_model.specs.Blocks.{Content}
use Rattle.gfx_model.specs.Blocks.Content.{skipped, effect}

-- the event ends the section before frame `first`
abbrev pub event_ends_at : ℕ → Event → Bool
event_ends_at first (EndSection frame) = frame == first
event_ends_at first _ = false

-- what a block says does
abbrev pub ends_at : ℕ → Content → Bool
ends_at first skipped = false
ends_at first (effect thread event) = event_ends_at first event
