-- The file in minor version 2.
use Rattle.std.specs.Prelude.{◌≡◌, ℕ, Bool, true, false, List, ◌++◌, flat_map}
use Rattle.gfx_model.specs.Events.{Event}
use Rattle.gfx_model.specs.Events.Event.{QueuePresentKHR}
use Rattle.gfx_model.specs.Spelling.{header, encoding}
use Rattle.gfx_model.specs.Blocks.{Content, Whole, End, AreBlocks}
use Rattle.gfx_model.specs.Blocks.Content.{skipped, effect}
use Rattle.gfx_rewrite.specs.Texts.{Texts}

-- the event is a present, the one call that version 2 spells in another way
abbrev pub is_present : Event → Bool
is_present (QueuePresentKHR queue waits presents) = true
is_present _ = false

-- a block that is copied, but a present with its fields in version 2
abbrev pub upgraded_event : List ℕ → ℕ → Event → List ℕ
upgraded_event bytes thread (QueuePresentKHR queue waits presents) = encoding 2 thread (QueuePresentKHR queue waits presents)
upgraded_event bytes thread _ = bytes

-- the block of a file of version 2 for a block of any version
abbrev pub upgraded_block : Whole → Content → List ℕ
upgraded_block w skipped = w.bytes
upgraded_block w (effect thread event) = upgraded_event w.bytes thread event

-- what is written in version 2: a header without options, and each block so
abbrev pub in_version_two : Texts
in_version_two = record { of_header = λ bytes. header 2; of_block = λ minor w. upgraded_block w w.content }

-- a header without options, and the blocks
abbrev pub upgraded_by : List Whole → List ℕ
upgraded_by blocks = header 2 ++ flat_map (λ w. upgraded_block w w.content) blocks

-- the file in version 2, up to the end of its blocks
pub record IsUpgraded (bytes out : List ℕ) : Type 0 where
  pub blocks : List Whole
  pub end : End
  pub are : AreBlocks bytes blocks end
  pub same : out ≡ upgraded_by blocks
