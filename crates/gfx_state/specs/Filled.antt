-- The fills of a list of bytes, as events.
use Rattle.std.specs.Prelude.{ℕ, ◌+◌, List, map, slice_range}
use Rattle.gfx_model.specs.Events.{Event}
use Rattle.gfx_model.specs.Events.Event.{FillMemory}
use Rattle.gfx_pages.specs.declared.bytes.Span.{Span}
use Rattle.gfx_pages.specs.Fills.{fills}

-- a fill of a memory with these bytes
abbrev pub fill_event : ℕ → List ℕ → Span → Event
fill_event memory bytes fill = FillMemory memory fill.at (slice_range bytes fill.at (fill.at + fill.length))

-- the fills of a memory with these bytes
abbrev pub fills_written : ℕ → List ℕ → List Event
fills_written memory bytes = map (fill_event memory bytes) (fills bytes)
