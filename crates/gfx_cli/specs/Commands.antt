-- What each command asks of a file, and what it writes.
use Rattle.std.specs.Prelude.{◌≡◌, ℕ, true, false, List, [], Option, Some, None, ⊤}
use Rattle.gfx_types.specs.declared.names.Fault.{Fault}
use Rattle.gfx_model.specs.Blocks.{clean, bad}
use Rattle.gfx_grammar.specs.Splitting.{blocks_of}
use Rattle.gfx_words.specs.declared.range.FrameRange.{FrameRange}
use Rattle.gfx_words.specs.declared.command.Command.{Command}
use Rattle.gfx_words.specs.declared.command.Command.TheVariants.{Info, Replay, Trim, Lean, Upgrade, List as Lists, Unlist as Unlists, Make, Help, Version}
use Rattle.gfx_player.specs.declared.asked.Asked.{Asked}
use Rattle.gfx_player.specs.declared.asked.Asked.TheVariants.{All, Between}
use Rattle.gfx_player.specs.Asked.{has_last}
use Rattle.gfx_player.specs.Fed.{IsUnfinished}
use Rattle.gfx_player.specs.Meanings.{end_of, history_in, frames_in, first_in, last_in}
use Rattle.gfx_play.specs.Shows as play
use Rattle.gfx_trim.specs.Numbers as trim
use Rattle.gfx_trim.specs.Trims.{IsBehindLast}
use Rattle.gfx_trim.specs.Written.{written}
use Rattle.gfx_trial.specs.Text.{trial_text}
use Rattle.gfx_upgrade.specs.Upgrades.{upgraded}
use Rattle.gfx_feature_model.specs.Lean.{IsLean}
use Rattle.gfx_feature_model.specs.Listing.{IsListing}
use Rattle.gfx_grammar.specs.Reads.{AreBytes}
use Rattle.gfx_text_grammar.specs.Splits.{is_without}
use Rattle.gfx_listing_law.specs.Fronts.{BeginsWith, IsBadAtLine, unlisted}
use Rattle.gfx_list.specs.Lists.{listed}
use Rattle.gfx_cli.specs.Text.{info_text, help_text, version_line}

-- the command reads a file
abbrev pub Reads : Command → Type 0
Reads Info = ⊤
Reads (Replay pixels frames) = ⊤
Reads (Trim r) = ⊤
Reads (Lean r) = ⊤
Reads Upgrade = ⊤
Reads Lists = ⊤
Reads Unlists = ⊤
Reads (Make n) = ⊥
Reads Help = ⊥
Reads Version = ⊥

-- the command reads a capture file
abbrev pub ReadsCapture : Command → Type 0
ReadsCapture Info = ⊤
ReadsCapture (Replay pixels frames) = ⊤
ReadsCapture (Trim r) = ⊤
ReadsCapture (Lean r) = ⊤
ReadsCapture Upgrade = ⊤
ReadsCapture Lists = ⊤
ReadsCapture _ = ⊥

-- the frames that the words ask for
abbrev pub asked_by : Option FrameRange → Asked
asked_by None = All
asked_by (Some r) = Between r.first r.last

-- the command asks for a range of frames
abbrev pub AsksForFrames : Command → Type 0
AsksForFrames (Replay pixels frames) = play.IsRange (asked_by frames)
AsksForFrames (Trim r) = ⊤
AsksForFrames (Lean r) = ⊤
AsksForFrames _ = ⊥

-- the text is the listing of a file
abbrev pub IsSomeListing : List ℕ → Type 0
IsSomeListing text = (bytes : List ℕ) × AreBytes bytes × IsListing bytes text

-- a file has the frames of a range
abbrev pub HasFrames : FrameRange → List ℕ → Type 0
HasFrames r bytes = trim.IsInside r.first r.last (history_in bytes)

-- its first bad block is before the last frame of a range, and this is it
abbrev pub IsBadBefore : FrameRange → Fault → ℕ → ℕ → List ℕ → Type 0
IsBadBefore r fault block offset bytes = (end_of bytes ≡ bad fault block offset) × trim.IsOutside r.first r.last (history_in bytes)

-- in these bytes is neither a bad block nor the last frame of a range, and the next block isn't whole
abbrev pub GoesOnBefore : FrameRange → List ℕ → Type 0
GoesOnBefore r read = IsUnfinished (blocks_of read).items read × (end_of read ≡ (blocks_of read).end) × trim.IsOutside r.first r.last (history_in read)

-- a file has all that the command asks for
abbrev pub IsGood : Command → List ℕ → Type 0
IsGood Info bytes = (blocks_of bytes).end ≡ clean
IsGood (Replay pixels frames) bytes = play.IsComplete (asked_by frames) bytes
IsGood (Trim r) bytes = HasFrames r bytes
IsGood (Lean r) bytes = HasFrames r bytes
IsGood Upgrade bytes = (blocks_of bytes).end ≡ clean
IsGood Lists bytes = (blocks_of bytes).end ≡ clean
IsGood Unlists text = IsSomeListing text
IsGood (Make n) bytes = ⊤
IsGood Help bytes = ⊤
IsGood Version bytes = ⊤

-- the first bad block is within what the command reads, and this is it
abbrev pub IsBad : Command → Fault → ℕ → ℕ → List ℕ → Type 0
IsBad Info fault block offset bytes = (blocks_of bytes).end ≡ bad fault block offset
IsBad (Replay pixels frames) fault block offset bytes = (end_of bytes ≡ bad fault block offset) × (has_last (asked_by frames) (frames_in bytes) ≡ false)
IsBad (Trim r) fault block offset bytes = IsBadBefore r fault block offset bytes
IsBad (Lean r) fault block offset bytes = IsBadBefore r fault block offset bytes
IsBad Upgrade fault block offset bytes = (blocks_of bytes).end ≡ bad fault block offset
IsBad Lists fault block offset bytes = (blocks_of bytes).end ≡ bad fault block offset
IsBad Unlists fault block offset bytes = ⊥
IsBad (Make n) fault block offset bytes = ⊥
IsBad Help fault block offset bytes = ⊥
IsBad Version fault block offset bytes = ⊥

-- a file ends cleanly without a frame of a range, and has these
pub record HasOnly (asked : Asked) (first last : ℕ) (bytes : List ℕ) : Type 0 where
  pub range : play.IsRange asked
  pub end : end_of bytes ≡ clean
  pub unseen : has_last asked (frames_in bytes) ≡ false
  pub first_is : first ≡ first_in (history_in bytes)
  pub last_is : last ≡ last_in (history_in bytes)

-- a file ends cleanly without a frame of a range that is to be cut out, and has these
pub record LacksRange (r : FrameRange) (first last : ℕ) (bytes : List ℕ) : Type 0 where
  pub end : end_of bytes ≡ clean
  pub outside : trim.IsOutside r.first r.last (history_in bytes)
  pub first_is : first ≡ first_in (history_in bytes)
  pub last_is : last ≡ last_in (history_in bytes)

-- a frame that the command asks for isn't in the file, which has these
abbrev pub LacksFrame : Command → ℕ → ℕ → List ℕ → Type 0
LacksFrame Info first last bytes = ⊥
LacksFrame (Replay pixels frames) first last bytes = HasOnly (asked_by frames) first last bytes
LacksFrame (Trim r) first last bytes = LacksRange r first last bytes
LacksFrame (Lean r) first last bytes = LacksRange r first last bytes
LacksFrame Upgrade first last bytes = ⊥
LacksFrame Lists first last bytes = ⊥
LacksFrame Unlists first last bytes = ⊥
LacksFrame (Make n) first last bytes = ⊥
LacksFrame Help first last bytes = ⊥
LacksFrame Version first last bytes = ⊥

-- the text that the command reads is no listing from this line on
abbrev pub IsBadLine : Command → ℕ → List ℕ → Type 0
IsBadLine Unlists line text = IsBadAtLine line text
IsBadLine _ line text = ⊥

-- nothing in these bytes stops the command: neither a bad block nor the last frame that it asks for, and the next block isn't whole;
-- `info`, `upgrade` and `list` stop only at a block that is none of the format, and `unlist` at a line that is none of a listing
abbrev pub GoesOn : Command → List ℕ → Type 0
GoesOn Info read = IsUnfinished (blocks_of read).items read
GoesOn (Replay pixels frames) read =
    IsUnfinished (blocks_of read).items read × (end_of read ≡ (blocks_of read).end) × (has_last (asked_by frames) (frames_in read) ≡ false)
GoesOn (Trim r) read = GoesOnBefore r read
GoesOn (Lean r) read = GoesOnBefore r read
GoesOn Upgrade read = IsUnfinished (blocks_of read).items read
GoesOn Lists read = IsUnfinished (blocks_of read).items read
GoesOn Unlists read = (lines : List (List ℕ)) × (rest : List ℕ) × BeginsWith lines rest read × (is_without 10 rest ≡ true)
GoesOn (Make n) read = ⊥
GoesOn Help read = ⊥
GoesOn Version read = ⊥

-- Took holds of what the command writes, where the file has all that it asks for
abbrev pub Writes : Command → (List ℕ → Type 0) → List ℕ → Type 0
Writes Info Took bytes = Took (info_text bytes)
Writes (Replay pixels frames) Took bytes = Took (play.text_in (asked_by frames) pixels bytes)
Writes (Trim r) Took bytes = Took (written r.first r.last bytes)
Writes (Lean r) Took bytes = (out : List ℕ) × Took out × IsLean r.first r.last bytes out
Writes Upgrade Took bytes = Took (upgraded bytes)
Writes Lists Took bytes = Took (listed bytes)
Writes Unlists Took text = Took (unlisted text)
Writes (Make n) Took bytes = Took (trial_text n)
Writes Help Took bytes = Took help_text
Writes Version Took bytes = Took version_line

-- what it writes before a bad block or a bad line, or before the end of a file without a frame that it asks for
abbrev pub text_before : Command → List ℕ → List ℕ
text_before Info bytes = []
text_before (Replay pixels frames) bytes = play.lines_in (asked_by frames) pixels bytes
text_before (Trim r) bytes = written r.first r.last bytes
text_before (Lean r) bytes = []
text_before Upgrade bytes = upgraded bytes
text_before Lists bytes = listed bytes
text_before Unlists text = unlisted text
text_before (Make n) bytes = []
text_before Help bytes = []
text_before Version bytes = []

-- what it leaves of a file that has all that it asks for
abbrev pub Leaves : Command → List ℕ → List ℕ → Type 0
Leaves Info bytes left = left ≡ []
Leaves (Replay pixels frames) bytes left = play.Leaves (asked_by frames) bytes left
Leaves (Trim r) bytes left = IsBehindLast r.last bytes left
Leaves (Lean r) bytes left = IsBehindLast r.last bytes left
Leaves Upgrade bytes left = left ≡ []
Leaves Lists bytes left = left ≡ []
Leaves Unlists text left = left ≡ []
Leaves (Make n) bytes left = left ≡ bytes
Leaves Help bytes left = left ≡ bytes
Leaves Version bytes left = left ≡ bytes
