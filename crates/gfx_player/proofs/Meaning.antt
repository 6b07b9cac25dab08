-- What is computed of bytes is what the definitions say.
use Rattle.std.proofs.Common.{◌≡◌, ℕ, List, Some, refl, ap, subst, ◌∙◌, sym}
use Rattle.gfx_model.specs.Frames.{frames}
use Rattle.gfx_model.specs.Spelling.{type_of}
use Rattle.gfx_grammar.proofs.BlockLaws.{blocks_are_computed}
use Rattle.gfx_grammar.proofs.EventLaws.{read_is_spelled, spelled_is_read}
use Rattle.gfx_grammar.specs.Reads.{AreBytes}
use Rattle.gfx_grammar.specs.Rows.{read_event}
use Rattle.gfx_grammar.specs.Splitting.{Blocks, blocks_of}
use Rattle.gfx_player.specs.Laws.{CallsAreSpelled, HasBlocks, HasMeaning, MeaningIsComputed}
use Rattle.gfx_player.specs.Meanings.{judged_of}

has_blocks : (bytes : List ℕ) → AreBytes bytes → HasBlocks bytes
has_blocks bytes fit = let b = blocks_are_computed bytes fit in record { are = b.0; only = b.1 }

has_meaning : (bytes : List ℕ) → AreBytes bytes → HasMeaning bytes
has_meaning bytes fit =
    let b = blocks_are_computed bytes fit in
    record {
      means = record { blocks = (blocks_of bytes).items; blocks_end = (blocks_of bytes).end; are = b.0; shows = refl; ends = refl };
      only = λ shown end m.
          let same = b.1 m.blocks m.blocks_end m.are in (
            m.shows ∙ ap (λ (b : Blocks). frames (judged_of b).history) (sym same),
            m.ends ∙ ap (λ (b : Blocks). (judged_of b).end) (sym same),
          );
    }

pub meaning_is_computed : MeaningIsComputed
meaning_is_computed bytes fit = (has_blocks bytes fit, has_meaning bytes fit)

pub calls_are_spelled : CallsAreSpelled
calls_are_spelled m n bytes e fit = (
  read_is_spelled m 4 n bytes e fit,
  λ spells id kind.
      subst (λ k. read_event m k n bytes ≡ Some e) kind (subst (λ i. read_event m (type_of e) i bytes ≡ Some e) id (spelled_is_read m bytes e spells)),
)
