-- What writing a file anew answers, and what was written.
use Rattle.std.specs.Prelude.{◌≡◌, ℕ, List, [], ◌++◌, Option, Result, Ok, Err, ⊤}
use Rattle.std.specs.Io.KnownBytes.{Appends}
use Rattle.gfx_io.specs.Pieces.{AppendsPart}
use Rattle.gfx_types.specs.declared.names.Fault.{Fault}
use Rattle.gfx_model.specs.Blocks.{clean, bad}
use Rattle.gfx_grammar.specs.Splitting.{blocks_of}
use Rattle.gfx_player.specs.declared.fault.PlayFault.{PlayFault}
use Rattle.gfx_player.specs.declared.fault.PlayFault.TheVariants as play
use Rattle.gfx_player.specs.Fed.{IsUnfinished}

-- all that is written of a file was taken, and the file read to its end
pub record IsDone (written : List ℕ → List ℕ) (took : List ℕ → Type 0) (bytes left : List ℕ) : Type 0 where
  pub clean_end : (blocks_of bytes).end ≡ clean
  pub text : took (written bytes)
  pub read : left ≡ []

-- the file has a bad block, and what is written of what is before it was taken
pub record IsBadAt (written : List ℕ → List ℕ) (took : List ℕ → Type 0) (fault : Fault) (block offset : ℕ) (bytes : List ℕ) : Type 0 where
  pub end : (blocks_of bytes).end ≡ bad fault block offset
  pub text : took (written bytes)

-- A read failed behind these bytes. The next block isn't whole in them, none of theirs is bad, and what is written of them was taken.
pub record IsCut (written : List ℕ → List ℕ) (took part : List ℕ → Type 0) (bytes left : List ℕ) : Type 0 where
  pub given : List ℕ
  pub parts : bytes ≡ given ++ left
  pub cut : IsUnfinished (blocks_of given).items given
  pub text : took (written given)
  -- which is a prefix of what is written of all
  pub front : part (written bytes)

-- What was taken, by the answer: all that is written of a file, what is written before the end of the file, or a part of that.
-- `took` says that all of a text was taken, and `part` that a prefix of it was.
abbrev pub AnswersBy : (written : List ℕ → List ℕ) (took part : List ℕ → Type 0) → Result Unit PlayFault → List ℕ → List ℕ → Type 0
AnswersBy written took part (Ok done) bytes left = IsDone written took bytes left
AnswersBy written took part (Err (play.Bad fault block offset)) bytes left = IsBadAt written took fault block offset bytes
AnswersBy written took part (Err (play.NoSuchFrame first last)) bytes left = ⊥
AnswersBy written took part (Err play.ReadFault) bytes left = IsCut written took part bytes left
AnswersBy written took part (Err play.SinkFault) bytes left = part (written bytes)
AnswersBy written took part (Err play.WantMemory) bytes left = part (written bytes)

-- what was written, by the answer: all that is written of a file, what is written before the end of the file, or a prefix of that
abbrev pub Answers : (written : List ℕ → List ℕ) → Option (List ℕ) → Option (List ℕ) → Result Unit PlayFault → List ℕ → List ℕ → Type 0
Answers written before after result bytes left = AnswersBy written (Appends before after) (AppendsPart before after) result bytes left

-- the fault does not say that a frame isn't there
abbrev pub AsksForNone : PlayFault → Type 0
AsksForNone (play.Bad fault block offset) = ⊤
AsksForNone (play.NoSuchFrame first last) = ⊥
AsksForNone play.ReadFault = ⊤
AsksForNone play.SinkFault = ⊤
AsksForNone play.WantMemory = ⊤
