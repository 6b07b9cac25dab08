-- Laws of files in version 2, which functions with empty bodies promise.
use Rattle.std.specs.Prelude.{◌≡◌, ℕ, List, Option, map, ⊤}
use Rattle.std.specs.Io.KnownBytes.{Appends}
use Rattle.gfx_model.specs.Spelling.{header}
use Rattle.gfx_model.specs.Blocks.{End, first_position, Whole, clean, bad}
use Rattle.gfx_grammar.specs.Reads.{AreBytes}
use Rattle.gfx_grammar.specs.Framing.{Part, placed}
use Rattle.gfx_grammar.specs.Splitting.{blocks_of}
use Rattle.gfx_player.specs.Meanings.{end_of, frames_in, history_in}
use Rattle.gfx_upgrade.specs.Upgraded.{IsUpgraded, upgraded_by, upgraded_block}
use Rattle.gfx_upgrade.specs.Upgrades.{upgraded}

-- a block as an upgrade writes it
abbrev pub upgraded_part : Whole → Part
upgraded_part w = record { bytes = upgraded_block w w.content; content = w.content }

-- a file that is upgraded has just the blocks that are written of its blocks, and ends cleanly
abbrev pub UpgradedIsRead : Type 0
UpgradedIsRead = (bytes : List ℕ) → AreBytes bytes
    → blocks_of (upgraded_by (blocks_of bytes).items) ≡ record { items = placed (first_position (header 2)) (map upgraded_part (blocks_of bytes).items); end = clean }

-- both end cleanly, or at a block with the same number and fault, wherever it stands
abbrev pub IsSameEnd : End → End → Type 0
IsSameEnd clean clean = ⊤
IsSameEnd clean (bad fault block offset) = ⊥
IsSameEnd (bad fault block offset) clean = ⊥
IsSameEnd (bad fault block offset) (bad other number place) = (fault ≡ other) × (block ≡ number)

-- The second file is the first in version 2: its blocks end cleanly and say the same, so it has the same history and the same frames, and the
-- first block that breaks a rule, if there is one, has the same number and fault in both.
pub record SaysTheSame (bytes out : List ℕ) : Type 0 where
  pub is : IsUpgraded bytes out
  pub clean_end : (blocks_of out).end ≡ clean
  pub says : map (λ (w : Whole). w.content) (blocks_of out).items ≡ map (λ (w : Whole). w.content) (blocks_of bytes).items
  pub history : history_in out ≡ history_in bytes
  pub shows : frames_in out ≡ frames_in bytes
  pub ends : IsSameEnd (end_of bytes) (end_of out)

-- a file that ends cleanly says the same once it is upgraded
abbrev pub UpgradedSaysTheSame : Type 0
UpgradedSaysTheSame = (bytes : List ℕ) → AreBytes bytes → (blocks_of bytes).end ≡ clean → SaysTheSame bytes (upgraded bytes)

-- the sink took such a file
abbrev pub TookSame : Option (List ℕ) → Option (List ℕ) → List ℕ → Type 0
TookSame before after bytes = (out : List ℕ) × Appends before after out × SaysTheSame bytes out
