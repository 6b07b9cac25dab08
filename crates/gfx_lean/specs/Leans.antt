-- What leaning a file answers, and what was written.
use Rattle.std.specs.Prelude.{◌≡◌, ◌⊎◌, ℕ, List, [], ◌++◌, Option, Result, Ok, Err, OnOk}
use Rattle.std.specs.Io.KnownBytes.{Appends}
use Rattle.gfx_io.specs.Pieces.{AppendsPart}
use Rattle.gfx_types.specs.declared.frame.Frame.{Frame}
use Rattle.gfx_types.specs.declared.names.Fault.{Fault}
use Rattle.gfx_model.specs.Blocks.End.{clean, bad}
use Rattle.gfx_model.specs.Meaning.{Means}
use Rattle.gfx_feature_model.specs.Lean.{IsLean}
use Rattle.gfx_grammar.specs.Reads.{AreBytes}
use Rattle.gfx_grammar.specs.Splitting.{blocks_of}
use Rattle.gfx_trim_law.specs.Law.{HasRange, frames_from}
use Rattle.gfx_player.specs.declared.fault.PlayFault.{PlayFault}
use Rattle.gfx_player.specs.declared.fault.PlayFault.TheVariants as play
use Rattle.gfx_player.specs.Fed.{IsUnfinished}
use Rattle.gfx_player.specs.Meanings.{end_of, history_in, first_in, last_in}
use Rattle.gfx_trim.specs.Numbers.{IsInside, IsOutside}
use Rattle.gfx_trim.specs.Trims.{IsBehindLast}

-- the range is in the file, its lean file was written, and nothing behind its last frame was read
pub record IsDone (first last : ℕ) (before after : Option (List ℕ)) (bytes left : List ℕ) : Type 0 where
  pub inside : IsInside first last (history_in bytes)
  pub out : List ℕ
  pub took : Appends before after out
  pub lean : IsLean first last bytes out
  pub behind : IsBehindLast last bytes left

-- the file has a bad block, before which the range is not whole; nothing was written
pub record IsBadAt (first last : ℕ) (before after : Option (List ℕ)) (fault : Fault) (block offset : ℕ) (bytes : List ℕ) : Type 0 where
  pub end : end_of bytes ≡ bad fault block offset
  pub outside : IsOutside first last (history_in bytes)
  pub none : after ≡ before

-- the file ends cleanly, has frames with these numbers, and the range is not among them; nothing was written
pub record IsWithout (first last : ℕ) (before after : Option (List ℕ)) (low high : ℕ) (bytes left : List ℕ) : Type 0 where
  pub end : end_of bytes ≡ clean
  pub outside : IsOutside first last (history_in bytes)
  pub low_is : low ≡ first_in (history_in bytes)
  pub high_is : high ≡ last_in (history_in bytes)
  pub none : after ≡ before
  pub read : left ≡ []

-- A read failed behind these bytes. Neither a bad block nor the last frame of the range is in them, and the next block
-- isn't whole; nothing was written.
pub record IsCut (first last : ℕ) (before after : Option (List ℕ)) (bytes left : List ℕ) : Type 0 where
  pub given : List ℕ
  pub parts : bytes ≡ given ++ left
  pub cut : IsUnfinished (blocks_of given).items given
  pub lawful : end_of given ≡ (blocks_of given).end
  pub outside : IsOutside first last (history_in given)
  pub none : after ≡ before

-- the range is in the file, and a prefix of its lean file was written
pub record IsPart (first last : ℕ) (before after : Option (List ℕ)) (bytes : List ℕ) : Type 0 where
  pub inside : IsInside first last (history_in bytes)
  pub out : List ℕ
  pub took : AppendsPart before after out
  pub lean : IsLean first last bytes out

-- what was written, by the answer: the lean file, a prefix of it, or nothing
abbrev pub Answers : (first last : ℕ) → Option (List ℕ) → Option (List ℕ) → Result Unit PlayFault → List ℕ → List ℕ → Type 0
Answers first last before after (Ok done) bytes left = IsDone first last before after bytes left
Answers first last before after (Err (play.Bad fault block offset)) bytes left = IsBadAt first last before after fault block offset bytes
Answers first last before after (Err (play.NoSuchFrame low high)) bytes left = IsWithout first last before after low high bytes left
Answers first last before after (Err play.ReadFault) bytes left = IsCut first last before after bytes left
Answers first last before after (Err play.SinkFault) bytes left = IsPart first last before after bytes
Answers first last before after (Err play.WantMemory) bytes left = (after ≡ before) ⊎ IsPart first last before after bytes

-- A sink took the lean file of the range. It ends cleanly, and its frames are those that the file shows from `first` to `last`.
pub record Keeps (first last : ℕ) (before after : Option (List ℕ)) (bytes : List ℕ) : Type 0 where
  pub out : List ℕ
  pub took : Appends before after out
  pub lean : IsLean first last bytes out
  -- the frames of the file up to `last`
  pub shown : List Frame
  pub range : HasRange first last bytes shown
  pub means : Means out (frames_from first shown) clean

-- the lean file keeps the frames
abbrev pub KeepsIfDone : (first last : ℕ) → Option (List ℕ) → Option (List ℕ) → Result Unit PlayFault → List ℕ → List ℕ → Type 0
KeepsIfDone first last before after result bytes left = OnOk result (Keeps first last before after bytes)

-- the answer, and that the lean file keeps the frames
abbrev pub AnswersKeeping : (first last : ℕ) → Option (List ℕ) → Option (List ℕ) → Result Unit PlayFault → List ℕ → List ℕ → Type 0
AnswersKeeping first last before after result bytes left =
    Answers first last before after result bytes left × KeepsIfDone first last before after result bytes left

-- the same of any list of bytes
abbrev pub AnswersIfBytes : (first last : ℕ) → Option (List ℕ) → Option (List ℕ) → Result Unit PlayFault → List ℕ → List ℕ → Type 0
AnswersIfBytes first last before after result bytes left = AreBytes bytes → AnswersKeeping first last before after result bytes left
