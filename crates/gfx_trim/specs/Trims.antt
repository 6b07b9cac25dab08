-- What trimming a file answers, and what was written.
use Rattle.std.specs.Prelude.{◌≡◌, ℕ, List, [], ◌++◌, Option, Some, Result, Ok, Err, OnOk}
use Rattle.std.specs.Io.KnownBytes.{Appends}
use Rattle.gfx_io.specs.Pieces.{AppendsPart}
use Rattle.gfx_types.specs.declared.names.Fault.{Fault}
use Rattle.gfx_model.specs.Blocks.{Whole, minor_of}
use Rattle.gfx_model.specs.Blocks.End.{clean, bad}
use Rattle.gfx_model.specs.Trimmed.{boundary, trimmed_by}
use Rattle.gfx_grammar.specs.Reads.{AreBytes}
use Rattle.gfx_grammar.specs.Splitting.{blocks_of}
use Rattle.gfx_player.specs.declared.fault.PlayFault.{PlayFault}
use Rattle.gfx_player.specs.declared.fault.PlayFault.TheVariants as play
use Rattle.gfx_player.specs.Fed.{IsReadThrough, IsUnfinished, history_of}
use Rattle.gfx_player.specs.Meanings.{end_of, history_in, first_in, last_in}
use Rattle.gfx_trim.specs.Cutters.{number_by}
use Rattle.gfx_trim.specs.Keeps.{Keeps}
use Rattle.gfx_trim.specs.Numbers.{IsInside, IsOutside}
use Rattle.gfx_trim.specs.Written.{written}

-- the trimmed file of a range
abbrev pub trimmed : (first last : ℕ) → List ℕ → List ℕ
trimmed first last bytes = trimmed_by (minor_of bytes) first last (boundary first (blocks_of bytes).items)

-- what is left follows the block that shows frame `last`
pub record IsBehindLast (last : ℕ) (bytes left : List ℕ) : Type 0 where
  pub fed : List Whole
  pub block : Whole
  pub through : IsReadThrough fed block bytes left
  pub shows : number_by (history_of fed) block.content ≡ Some last

-- the range is in the file, its trimmed file was written, and nothing behind its last frame was read
pub record IsDone (first last : ℕ) (before after : Option (List ℕ)) (bytes left : List ℕ) : Type 0 where
  pub inside : IsInside first last (history_in bytes)
  pub file : Appends before after (trimmed first last bytes)
  -- which is all that is written of it
  pub all : written first last bytes ≡ trimmed first last bytes
  pub behind : IsBehindLast last bytes left

-- the file has a bad block, before which the range is not whole
pub record IsBadAt (first last : ℕ) (before after : Option (List ℕ)) (fault : Fault) (block offset : ℕ) (bytes : List ℕ) : Type 0 where
  pub end : end_of bytes ≡ bad fault block offset
  pub outside : IsOutside first last (history_in bytes)
  pub file : Appends before after (written first last bytes)

-- the file ends cleanly, has frames with these numbers, and the range is not among them
pub record IsWithout (first last : ℕ) (before after : Option (List ℕ)) (low high : ℕ) (bytes left : List ℕ) : Type 0 where
  pub end : end_of bytes ≡ clean
  pub outside : IsOutside first last (history_in bytes)
  pub low_is : low ≡ first_in (history_in bytes)
  pub high_is : high ≡ last_in (history_in bytes)
  pub file : Appends before after (written first last bytes)
  pub read : left ≡ []

-- A read failed behind these bytes. Neither a bad block nor the last frame of the range is in them, and the next block isn't whole.
pub record IsCut (first last : ℕ) (before after : Option (List ℕ)) (bytes left : List ℕ) : Type 0 where
  pub given : List ℕ
  pub parts : bytes ≡ given ++ left
  pub cut : IsUnfinished (blocks_of given).items given
  pub lawful : end_of given ≡ (blocks_of given).end
  pub outside : IsOutside first last (history_in given)
  pub file : Appends before after (written first last given)
  -- which is a prefix of what is written of all
  pub front : AppendsPart before after (written first last bytes)

-- what was written, by the answer: the trimmed file, what stands of it before the end of the file, or a prefix of that
abbrev pub Answers : (first last : ℕ) → Option (List ℕ) → Option (List ℕ) → Result Unit PlayFault → List ℕ → List ℕ → Type 0
Answers first last before after (Ok done) bytes left = IsDone first last before after bytes left
Answers first last before after (Err (play.Bad fault block offset)) bytes left = IsBadAt first last before after fault block offset bytes
Answers first last before after (Err (play.NoSuchFrame low high)) bytes left = IsWithout first last before after low high bytes left
Answers first last before after (Err play.ReadFault) bytes left = IsCut first last before after bytes left
Answers first last before after (Err play.SinkFault) bytes left = AppendsPart before after (written first last bytes)
Answers first last before after (Err play.WantMemory) bytes left = AppendsPart before after (written first last bytes)

-- and the trimmed file keeps the frames
abbrev pub KeepsIfDone : (first last : ℕ) → Option (List ℕ) → Option (List ℕ) → Result Unit PlayFault → List ℕ → List ℕ → Type 0
KeepsIfDone first last before after result bytes left = OnOk result (Keeps first last before after bytes)

-- the same of any list of bytes
abbrev pub KeepsIfBytes : (first last : ℕ) → Option (List ℕ) → Option (List ℕ) → Result Unit PlayFault → List ℕ → List ℕ → Type 0
KeepsIfBytes first last before after result bytes left = AreBytes bytes → KeepsIfDone first last before after result bytes left

-- the answer, and that the trimmed file keeps the frames
abbrev pub AnswersKeeping : (first last : ℕ) → Option (List ℕ) → Option (List ℕ) → Result Unit PlayFault → List ℕ → List ℕ → Type 0
AnswersKeeping first last before after result bytes left =
    Answers first last before after result bytes left × KeepsIfBytes first last before after result bytes left
