-- Laws of the capture that is made, which functions with empty bodies promise.
use Rattle.std.specs.Prelude.{◌≡◌, ◌≤◌, ◌+◌, ◌*◌, ◌-◌, ℕ, true, List, [], length, map}
use Rattle.gfx_model.specs.Spelling.{header}
use Rattle.gfx_model.specs.Blocks.{first_position}
use Rattle.gfx_model.specs.Blocks.End.{clean}
use Rattle.gfx_model.specs.History.{onto, is_valid}
use Rattle.gfx_model.specs.Frames.{frames}
use Rattle.gfx_model.specs.Meaning.{Means, judge}
use Rattle.gfx_model.specs.Trimmed.{IsTrimmed}
use Rattle.gfx_grammar.specs.Framing.{placed, made_part}
use Rattle.gfx_grammar.specs.Splitting.{blocks_of}
use Rattle.gfx_trim_law.specs.Law.{HasRange}
use Rattle.gfx_make.specs.Made.{made, made_file}
use Rattle.gfx_make.specs.Shown.{shown_from}

-- no event has a fault
abbrev pub MadeIsValid : Type 0
MadeIsValid = (n : ℕ) → n ≤ 1000 → is_valid (onto (made n) []) ≡ true

-- each frame shows the memory as it is then
abbrev pub MadeShows : Type 0
MadeShows = (n : ℕ) → n ≤ 1000 → frames (onto (made n) []) ≡ shown_from 1 n

-- the blocks of the file are those of the events, and the file ends cleanly
abbrev pub MadeIsRead : Type 0
MadeIsRead = (n : ℕ) → n ≤ 1000 → blocks_of (made_file n) ≡ record { items = placed (first_position (header 1)) (map (made_part 1) (made n)); end = clean }

-- these blocks are 25, and 6 for each frame
abbrev pub MadeIsCounted : Type 0
MadeIsCounted = (n : ℕ) → n ≤ 1000 → length (blocks_of (made_file n)).items ≡ 25 + 6 * n

-- they are judged without a fault
abbrev pub MadeIsJudged : Type 0
MadeIsJudged = (n : ℕ) → n ≤ 1000 → judge [] (blocks_of (made_file n)).items (blocks_of (made_file n)).end ≡ record { history = onto (made n) []; end = clean }

-- so the file means its frames
abbrev pub MadeIsMeant : Type 0
MadeIsMeant = (n : ℕ) → n ≤ 1000 → Means (made_file n) (shown_from 1 n) clean

-- each range of frames from 1 to n is inside it
abbrev pub MadeHasRange : Type 0
MadeHasRange = (n first last : ℕ) → n ≤ 1000 → 1 ≤ first → first ≤ last → last ≤ n → HasRange first last (made_file n) (shown_from 1 last)

-- and its trimmed file means just these frames
abbrev pub MadeIsTrimmed : Type 0
MadeIsTrimmed = (n first last : ℕ) (taken : List ℕ) → n ≤ 1000 → 1 ≤ first → first ≤ last → last ≤ n →
    IsTrimmed first last (made_file n) taken → Means taken (shown_from first (last + 1 - first)) clean
