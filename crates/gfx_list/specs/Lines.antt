-- How lines are read from a source.
use Rattle.std.specs.Prelude.{◌≡◌, ◌≢◌, ◌⊎◌, ◌<◌, ◌≤◌, ℕ, ◌+◌, true, List, [], ◌++◌, length, take, drop, Option, Some, None, Result, Ok, Err, ⊤}
use Rattle.std.specs.Io.KnownBytes.{Consumes, IsAtEnd}
use Rattle.gfx_model.specs.Text.{line}
use Rattle.gfx_decode.specs.Reading.{ReadsSome}
use Rattle.gfx_text_grammar.specs.Splits.{is_without}
use Rattle.gfx_listing_law.specs.Fronts.{IsLongLine, max_line_bytes}
use Rattle.gfx_list.specs.Unlists.{read_ahead}
use Rattle.gfx_list.specs.declared.fault.UnlistFault.{UnlistFault}
use Rattle.gfx_list.specs.declared.fault.UnlistFault.TheVariants.{BadListing, ReadFault, SinkFault, WantMemory}

-- the text begins with a line of so many bytes and its line feed
pub record HasLineTo (end : ℕ) (text : List ℕ) : Type 0 where
  pub within : end < length text
  pub whole : text ≡ line (take end text) ++ drop (end + 1) text
  pub without : is_without 10 (take end text) ≡ true

-- what was read follows what was held of a source
abbrev pub Reads : List ℕ → Option (List ℕ) → List ℕ → Option (List ℕ) → Type 0
Reads old before new after = (piece : List ℕ) × Consumes before after piece × (new ≡ old ++ piece)

-- the input ends in the line, or it has too many bytes
abbrev pub EndsInLine : List ℕ → Option (List ℕ) → Type 0
EndsInLine new after = ((is_without 10 new ≡ true) × (new ≢ []) × IsAtEnd after) ⊎ IsLongLine new

-- the next line was read, or nothing is left, or why there is none
abbrev pub Finds : ℕ → List ℕ → Option (List ℕ) → List ℕ → Option (List ℕ) → Result (Option ℕ) UnlistFault → Type 0
Finds number old before new after (Ok (Some end)) = Reads old before new after × HasLineTo end new × (end < max_line_bytes) × (length new < read_ahead)
Finds number old before new after (Ok None) = Reads old before new after × (new ≡ []) × IsAtEnd after
Finds number old before new after (Err (BadListing at)) = Reads old before new after × (at ≡ number) × EndsInLine new after × (length new < read_ahead)
Finds number old before new after (Err ReadFault) = Reads old before new after × (is_without 10 new ≡ true) × (length new < max_line_bytes)
Finds number old before new after (Err SinkFault) = ⊥
Finds number old before new after (Err WantMemory) = ReadsSome before after

-- a line feed was read, or there is none before the end of the input or in as many bytes as no line has
abbrev pub FindsFeed : List ℕ → Option (List ℕ) → List ℕ → Option (List ℕ) → Result (Option ℕ) UnlistFault → Type 0
FindsFeed old before new after (Ok (Some end)) = Reads old before new after × HasLineTo end new × (length new < read_ahead)
FindsFeed old before new after (Ok None) =
    Reads old before new after × (is_without 10 new ≡ true) × (IsAtEnd after ⊎ (max_line_bytes ≤ length new)) × (length new < read_ahead)
FindsFeed old before new after (Err (BadListing at)) = ⊥
FindsFeed old before new after (Err ReadFault) = Reads old before new after × (is_without 10 new ≡ true) × (length new < max_line_bytes)
FindsFeed old before new after (Err SinkFault) = ⊥
FindsFeed old before new after (Err WantMemory) = ReadsSome before after

-- a read failed, or there was no memory
abbrev pub IsUngiven : UnlistFault → Type 0
IsUngiven (BadListing at) = ⊥
IsUngiven ReadFault = ⊤
IsUngiven SinkFault = ⊥
IsUngiven WantMemory = ⊤
