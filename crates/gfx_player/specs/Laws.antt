-- What clauses cite, computed, is what the definitions say.
use Rattle.std.specs.Prelude.{◌≡◌, ℕ, List, Some}
use Rattle.gfx_types.specs.declared.frame.Frame.{Frame}
use Rattle.gfx_model.specs.Events.{Event}
use Rattle.gfx_model.specs.Blocks.{AreBlocks, End, Whole}
use Rattle.gfx_model.specs.Meaning.{Means}
use Rattle.gfx_model.specs.Spelling.{Spells, id_of, type_of}
use Rattle.gfx_grammar.specs.Reads.{AreBytes}
use Rattle.gfx_grammar.specs.Rows.{read_call}
use Rattle.gfx_grammar.specs.Splitting.{blocks_of}
use Rattle.gfx_player.specs.Meanings.{end_of, frames_in}

-- the computed blocks are the blocks of the bytes, and there are no others
pub record HasBlocks (bytes : List ℕ) : Type 0 where
  pub are : AreBlocks bytes (blocks_of bytes).items (blocks_of bytes).end
  pub only : (blocks : List Whole) (end : End) → AreBlocks bytes blocks end → blocks_of bytes ≡ record { items = blocks; end = end }

-- the computed frames and end are the meaning of the bytes, and there is no other
pub record HasMeaning (bytes : List ℕ) : Type 0 where
  pub means : Means bytes (frames_in bytes) (end_of bytes)
  pub only : (shown : List Frame) (end : End) → Means bytes shown end → (shown ≡ frames_in bytes) × (end ≡ end_of bytes)

-- what is computed of bytes is what they mean
abbrev pub MeaningIsComputed : Type 0
MeaningIsComputed = (bytes : List ℕ) → AreBytes bytes → HasBlocks bytes × HasMeaning bytes

-- a call is read of bytes where they spell it, and nowhere else
abbrev pub CallsAreSpelled : Type 0
CallsAreSpelled = (m n : ℕ) (bytes : List ℕ) (e : Event) → AreBytes bytes
    → (read_call m n bytes ≡ Some e → Spells m e bytes × (id_of e ≡ n) × (type_of e ≡ 4))
    × (Spells m e bytes → id_of e ≡ n → type_of e ≡ 4 → read_call m n bytes ≡ Some e)
