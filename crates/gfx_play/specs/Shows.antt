-- What is written of a file, and where reading ends.
use Rattle.std.specs.Prelude.{◌≡◌, ℕ, Bool, true, false, List, [], ◌++◌, Option, Result, Ok, Err, ⊤}
use Rattle.std.specs.Io.KnownBytes.{Appends}
use Rattle.gfx_io.specs.Pieces.{AppendsPart}
use Rattle.gfx_model.specs.Blocks.{minor_of}
use Rattle.gfx_model.specs.Blocks.End.{clean, bad}
use Rattle.gfx_model.specs.Text.{frames_text}
use Rattle.sha2.specs.Sha256.{sha256}
use Rattle.gfx_grammar.specs.Splitting.{blocks_of}
use Rattle.gfx_types.specs.declared.names.Fault.{Fault}
use Rattle.gfx_player.specs.declared.asked.Asked.{Asked}
use Rattle.gfx_player.specs.declared.asked.Asked.TheVariants as asked
use Rattle.gfx_player.specs.Asked.{IsBehindLast, asked_of, has_last}
use Rattle.gfx_player.specs.declared.fault.PlayFault.{PlayFault}
use Rattle.gfx_player.specs.declared.fault.PlayFault.TheVariants as play
use Rattle.gfx_player.specs.Fed.{IsUnfinished}
use Rattle.gfx_player.specs.Meanings.{frames_in, end_of, history_in, first_in, last_in}
use Rattle.gfx_play.specs.Screens.{lines_of}

-- the lines of the frames that are asked for
abbrev pub lines_in : Asked → Bool → List ℕ → List ℕ
lines_in a pixels bytes = lines_of (record { minor = minor_of bytes; pixels = pixels }) (asked_of a (frames_in bytes))

-- these lines, and their number
abbrev pub text_in : Asked → Bool → List ℕ → List ℕ
text_in a pixels bytes = frames_text (minor_of bytes) sha256 pixels (asked_of a (frames_in bytes))

-- all that is asked for is there: the file ends cleanly, or shows the last frame that is asked for
abbrev pub IsComplete : Asked → List ℕ → Type 0
IsComplete asked.All bytes = end_of bytes ≡ clean
IsComplete (asked.Between a b) bytes = has_last (asked.Between a b) (frames_in bytes) ≡ true

-- a range of frames is asked for
abbrev pub IsRange : Asked → Type 0
IsRange asked.All = ⊥
IsRange (asked.Between a b) = ⊤

-- everything was shown that is asked for
pub record IsShown (a : Asked) (pixels : Bool) (before after : Option (List ℕ)) (bytes : List ℕ) : Type 0 where
  pub complete : IsComplete a bytes
  pub text : Appends before after (text_in a pixels bytes)

-- the file ends at a bad block, before the last frame that is asked for
pub record IsBadAt (a : Asked) (pixels : Bool) (before after : Option (List ℕ)) (fault : Fault) (block offset : ℕ) (bytes : List ℕ) : Type 0 where
  pub end : end_of bytes ≡ bad fault block offset
  pub unseen : has_last a (frames_in bytes) ≡ false
  pub text : Appends before after (lines_in a pixels bytes)

-- the file ends cleanly without a frame that is asked for, has these, and was read to its end
pub record IsWithout (a : Asked) (pixels : Bool) (before after : Option (List ℕ)) (first last : ℕ) (bytes left : List ℕ) : Type 0 where
  pub range : IsRange a
  pub end : end_of bytes ≡ clean
  pub unseen : has_last a (frames_in bytes) ≡ false
  pub first_is : first ≡ first_in (history_in bytes)
  pub last_is : last ≡ last_in (history_in bytes)
  pub text : Appends before after (lines_in a pixels bytes)
  pub read : left ≡ []

-- A read failed. In the bytes that were given is neither a bad block nor the last frame that is asked for, and the next block isn't whole. Their frames were shown.
pub record IsCut (a : Asked) (pixels : Bool) (before after : Option (List ℕ)) (bytes left : List ℕ) : Type 0 where
  pub given : List ℕ
  pub parts : bytes ≡ given ++ left
  pub cut : IsUnfinished (blocks_of given).items given
  pub lawful : end_of given ≡ (blocks_of given).end
  pub unseen : has_last a (frames_in given) ≡ false
  pub text : Appends before after (lines_in a pixels given)
  -- which are the first lines of all
  pub front : AppendsPart before after (text_in a pixels bytes)

-- a file is read to its end, or through the block that shows the last frame
abbrev pub Leaves : Asked → List ℕ → List ℕ → Type 0
Leaves asked.All bytes left = left ≡ []
Leaves (asked.Between a b) bytes left = IsBehindLast (asked.Between a b) bytes left

-- what the end of a file may answer
abbrev pub EndsOnly : Asked → PlayFault → Type 0
EndsOnly a (play.Bad fault block offset) = ⊥
EndsOnly a (play.NoSuchFrame first last) = IsRange a
EndsOnly a play.ReadFault = ⊥
EndsOnly a play.SinkFault = ⊤
EndsOnly a play.WantMemory = ⊤

-- where the fault says that a frame isn't there, a range was asked for
abbrev pub MayMiss : Asked → PlayFault → Type 0
MayMiss a (play.Bad fault block offset) = ⊤
MayMiss a (play.NoSuchFrame first last) = IsRange a
MayMiss a play.ReadFault = ⊤
MayMiss a play.SinkFault = ⊤
MayMiss a play.WantMemory = ⊤

-- what was written, by the answer: all, what is before a bad block or a failed read, what is there of a range, or a prefix
abbrev pub Answers : Asked → Bool → Option (List ℕ) → Option (List ℕ) → Result Unit PlayFault → List ℕ → List ℕ → Type 0
Answers a pixels before after (Ok done) bytes left = IsShown a pixels before after bytes × Leaves a bytes left
Answers a pixels before after (Err (play.Bad fault block offset)) bytes left = IsBadAt a pixels before after fault block offset bytes
Answers a pixels before after (Err (play.NoSuchFrame first last)) bytes left = IsWithout a pixels before after first last bytes left
Answers a pixels before after (Err play.ReadFault) bytes left = IsCut a pixels before after bytes left
Answers a pixels before after (Err play.SinkFault) bytes left = AppendsPart before after (text_in a pixels bytes)
Answers a pixels before after (Err play.WantMemory) bytes left = AppendsPart before after (text_in a pixels bytes)
