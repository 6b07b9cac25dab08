-- What is answered of a file, and where reading ends.
use Rattle.std.specs.Prelude.{◌≡◌, ℕ, true, false, List, [], ◌++◌, length, Result, Ok, Err, ⊤}
use Rattle.sha2.specs.Sha256.{sha256}
use Rattle.gfx_types.specs.declared.names.Fault.{Fault}
use Rattle.gfx_model.specs.Blocks.End.{clean, bad}
use Rattle.gfx_grammar.specs.Splitting.{blocks_of}
use Rattle.gfx_player.specs.declared.asked.Asked.{Asked}
use Rattle.gfx_player.specs.declared.asked.Asked.TheVariants.{Between}
use Rattle.gfx_player.specs.declared.fault.PlayFault.{PlayFault}
use Rattle.gfx_player.specs.declared.fault.PlayFault.TheVariants as play
use Rattle.gfx_player.specs.Asked.{IsBehindLast, asked_of, has_last}
use Rattle.gfx_player.specs.Fed.{IsUnfinished}
use Rattle.gfx_player.specs.Meanings.{end_of, history_in, frames_in, first_in, last_in}
use Rattle.gfx_digest.specs.declared.digest.Digested.{Digested}
use Rattle.gfx_digest.specs.Images.{image_bytes}

-- the last frame that is asked for is there, these are the digest of the images and the number of the frames, and what is left follows the last
pub record IsDigest (a : Asked) (d : Digested) (bytes left : List ℕ) : Type 0 where
  pub complete : has_last a (frames_in bytes) ≡ true
  pub digest : d.digest ≡ sha256 (image_bytes (asked_of a (frames_in bytes)))
  pub frames : d.frames ≡ length (asked_of a (frames_in bytes))
  pub behind : IsBehindLast a bytes left

-- the file ends at a bad block, before the last frame that is asked for
pub record IsBadBefore (a : Asked) (fault : Fault) (block offset : ℕ) (bytes : List ℕ) : Type 0 where
  pub end : end_of bytes ≡ bad fault block offset
  pub unseen : has_last a (frames_in bytes) ≡ false

-- the file ends cleanly without the last frame that is asked for, has the frames from `lowest` to `highest`, and was read to its end
pub record IsWithout (a : Asked) (lowest highest : ℕ) (bytes left : List ℕ) : Type 0 where
  pub end : end_of bytes ≡ clean
  pub unseen : has_last a (frames_in bytes) ≡ false
  pub lowest_is : lowest ≡ first_in (history_in bytes)
  pub highest_is : highest ≡ last_in (history_in bytes)
  pub read : left ≡ []

-- A read failed. In the bytes that were given is neither a bad block nor the last frame that is asked for, and the next block isn't whole.
pub record IsCut (a : Asked) (bytes left : List ℕ) : Type 0 where
  pub given : List ℕ
  pub parts : bytes ≡ given ++ left
  pub cut : IsUnfinished (blocks_of given).items given
  pub lawful : end_of given ≡ (blocks_of given).end
  pub unseen : has_last a (frames_in given) ≡ false

-- what an answer says of a file; nothing when out of memory, and no write fails
abbrev pub DigestsAsked : Asked → Result Digested PlayFault → List ℕ → List ℕ → Type 0
DigestsAsked a (Ok d) bytes left = IsDigest a d bytes left
DigestsAsked a (Err (play.Bad fault block offset)) bytes left = IsBadBefore a fault block offset bytes
DigestsAsked a (Err (play.NoSuchFrame lowest highest)) bytes left = IsWithout a lowest highest bytes left
DigestsAsked a (Err play.ReadFault) bytes left = IsCut a bytes left
DigestsAsked a (Err play.SinkFault) bytes left = ⊥
DigestsAsked a (Err play.WantMemory) bytes left = ⊤

-- the same of the frames from `first` to `last`
abbrev pub Digests : ℕ → ℕ → Result Digested PlayFault → List ℕ → List ℕ → Type 0
Digests first last r bytes left = DigestsAsked (Between first last) r bytes left
