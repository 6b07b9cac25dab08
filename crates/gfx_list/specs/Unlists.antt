-- What reading a listing answers, and what was written.
use Rattle.std.specs.Prelude.{◌≡◌, ◌<◌, ◌+◌, ◌^◌, ℕ, length, true, List, [], ◌++◌, flat_map, Option, Result, Ok, Err}
use Rattle.std.specs.Io.KnownBytes.{Appends}
use Rattle.gfx_io.specs.Pieces.{AppendsPart}
use Rattle.gfx_grammar.specs.Reads.{AreBytes}
use Rattle.gfx_model.specs.Text.{line}
use Rattle.gfx_feature_model.specs.Listing.{IsListing}
use Rattle.gfx_text_grammar.specs.Splits.{is_without}
use Rattle.gfx_listing_law.specs.Fronts.{BeginsWith, IsBadAtLine, bytes_in, max_line_bytes}
use Rattle.gfx_list.specs.declared.fault.UnlistFault.{UnlistFault}
use Rattle.gfx_list.specs.declared.fault.UnlistFault.TheVariants.{BadListing, ReadFault, SinkFault, WantMemory}

-- the text, all that the source had, is the listing of the bytes that were taken
pub record IsUnlisted (took : List ℕ → Type 0) (text left : List ℕ) : Type 0 where
  pub bytes : List ℕ
  pub are_bytes : AreBytes bytes
  pub listing : IsListing bytes text
  pub file : took bytes
  pub read : left ≡ []

-- how much of a text is read behind its lines so far: less than a line may have and one piece
abbrev pub read_ahead : ℕ
read_ahead = max_line_bytes + 2 ^ 16

-- the text begins with these lines, and this is left behind what was read ahead of them
pub record IsReadTo (lines : List (List ℕ)) (text left : List ℕ) : Type 0 where
  pub ahead : List ℕ
  pub parts : text ≡ flat_map line lines ++ (ahead ++ left)
  pub short : length ahead < read_ahead

-- The text is no listing from this line on, and the bytes that the lines before it list were taken. Not much behind them was read.
pub record IsBadListing (took : List ℕ → Type 0) (number : ℕ) (text left : List ℕ) : Type 0 where
  pub bad : IsBadAtLine number text
  pub file : took (bytes_in bad.lines)
  pub read : IsReadTo bad.lines text left

-- A read failed behind this text. Its whole lines begin a listing, behind them is less than a line may have, and the bytes that
-- they list were taken.
pub record IsUnread (took : List ℕ → Type 0) (text left : List ℕ) : Type 0 where
  pub given : List ℕ
  pub parts : text ≡ given ++ left
  pub lines : List (List ℕ)
  pub rest : List ℕ
  pub begins : BeginsWith lines rest given
  pub cut : is_without 10 rest ≡ true
  pub short : length rest < max_line_bytes
  pub file : took (bytes_in lines)

-- this was taken of the bytes that some first lines of the text list
pub record IsFront (took : List ℕ → Type 0) (text : List ℕ) : Type 0 where
  pub lines : List (List ℕ)
  pub rest : List ℕ
  pub begins : BeginsWith lines rest text
  pub part : took (bytes_in lines)

-- What was taken, by the answer: the file of the listing, what the lines before a bad one list, or a part of such bytes. `took`
-- says that all of some bytes was taken, and `part` that a prefix of them was.
abbrev pub UnlistsBy : (took part : List ℕ → Type 0) → Result Unit UnlistFault → List ℕ → List ℕ → Type 0
UnlistsBy took part (Ok done) text left = IsUnlisted took text left
UnlistsBy took part (Err (BadListing number)) text left = IsBadListing took number text left
UnlistsBy took part (Err ReadFault) text left = IsUnread took text left
UnlistsBy took part (Err SinkFault) text left = IsFront part text
UnlistsBy took part (Err WantMemory) text left = IsFront part text

-- what was written, by the answer: the file of the listing, what the lines before a bad one list, or a prefix of such bytes
abbrev pub Unlists : Option (List ℕ) → Option (List ℕ) → Result Unit UnlistFault → List ℕ → List ℕ → Type 0
Unlists before after result text left = UnlistsBy (Appends before after) (AppendsPart before after) result text left
