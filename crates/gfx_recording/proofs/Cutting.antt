-- What trimming answers of a file in memory that ends cleanly.
use Rattle.std.proofs.Common.{◌≡◌, ℕ, List, Option, Err, refl, sym, ◌∙◌, arith}
use Rattle.gfx_types.specs.declared.frame.Frame.{Frame}
use Rattle.gfx_io.specs.Causes.{Rose}
use Rattle.gfx_model.specs.Blocks.End.{clean}
use Rattle.gfx_model.specs.Meaning.{Means}
use Rattle.gfx_grammar.specs.Reads.{AreBytes}
use Rattle.gfx_player.specs.declared.fault.PlayFault.{PlayFault}
use Rattle.gfx_player.specs.declared.fault.PlayFault.TheVariants as play
use Rattle.gfx_player.specs.Meanings.{end_of}
use Rattle.gfx_player.proofs.Meaning.{meaning_is_computed}
use Rattle.gfx_trim.specs.Trims.{Answers}
use Rattle.gfx_recording.specs.Faults.{IsCutFault, recording_fault}
use Rattle.gfx_recording.specs.Writing.{Cuts}

module _ (first last : ℕ) (bytes left : List ℕ) (shown : List Frame) (fit : AreBytes bytes) (means : Means bytes shown clean) where
  ends : end_of bytes ≡ clean
  ends = sym ((meaning_is_computed bytes fit).1.only shown clean means).1

  pub cut_fault : (why : PlayFault) (before after : Option (List ℕ)) → Answers first last before after (Err why) bytes left → (why ≡ play.ReadFault → Rose 0 0) → IsCutFault why
  cut_fault (play.Bad fault block offset) before after a rose = let e = sym ends ∙ a.end in absurd cc
  cut_fault (play.NoSuchFrame low high) before after a rose = tt
  cut_fault play.ReadFault before after a rose = let rises : Rose 0 0 = rose refl in absurd (omega (arith, rises))
  cut_fault play.SinkFault before after a rose = tt
  cut_fault play.WantMemory before after a rose = tt

pub cut_answer : (first last : ℕ) (bytes left : List ℕ) (why : PlayFault) (before after : Option (List ℕ)) → IsCutFault why
    → Answers first last before after (Err why) bytes left → Cuts first last before after bytes (Err (recording_fault why))
cut_answer first last bytes left (play.Bad fault block offset) before after can a = absurd can
cut_answer first last bytes left (play.NoSuchFrame low high) before after can a = (left, a)
cut_answer first last bytes left play.ReadFault before after can a = absurd can
cut_answer first last bytes left play.SinkFault before after can a = a
cut_answer first last bytes left play.WantMemory before after can a = a
