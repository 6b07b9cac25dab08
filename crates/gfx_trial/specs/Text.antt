-- The lines on a trial.
use Rattle.std.specs.Prelude.{◌+◌, ◌*◌, ◌/◌, ℕ, List, [], ◌∷◌, ◌++◌, codes, decimal}
use Rattle.gfx_types.specs.declared.frame.Frame.{Frame}
use Rattle.gfx_model.specs.Frames.{frames}
use Rattle.gfx_model.specs.History.{onto}
use Rattle.gfx_model.specs.Meaning.{frames_to}
use Rattle.gfx_model.specs.Text.{hex_text}
use Rattle.gfx_trim_law.specs.Law.{frames_from}
use Rattle.gfx_digest.specs.declared.digest.Digested.{Digested}
use Rattle.gfx_make.specs.Made.{made}
use Rattle.gfx_trial.specs.declared.trial.Trial.{Trial}
use Rattle.gfx_trial.specs.Files.{digested}

-- the first frame of the middle third of n frames
abbrev pub middle_first : ℕ → ℕ
middle_first n = n / 3

-- the last frame of the middle third of n frames
abbrev pub middle_last : ℕ → ℕ
middle_last n = 2 * n / 3

-- these frames of the capture of n frames
abbrev pub middle : ℕ → List Frame
middle n = frames_from (middle_first n) (frames_to (middle_last n) (frames (onto (made n) [])))

-- their digest, and their number
unfoldable pub middle_digested : ℕ → Digested
middle_digested n = digested (middle_first n) (middle_last n) (middle n)

-- the end of a line
abbrev pub line_feed : List ℕ
line_feed = 10 ∷ []

-- the line on the file of n frames
unfoldable pub file_line : ℕ → List ℕ
file_line n = codes "file frames " ++ decimal n ++ codes " blocks " ++ decimal (25 + 6 * n) ++ line_feed

-- the line on the file that was cut out
unfoldable pub cut_line : (first last count : ℕ) → List ℕ
cut_line first last count = codes "trim " ++ decimal first ++ codes "-" ++ decimal last ++ codes " frames " ++ decimal count ++ line_feed

-- a digest
unfoldable pub digest_line : List ℕ → List ℕ
digest_line digest = codes "digest " ++ hex_text digest ++ line_feed

-- the lines on a trial
abbrev pub lines_on : Trial → List ℕ
lines_on t = file_line t.frames ++ cut_line t.first t.last t.cut.frames ++ digest_line t.whole.digest ++ digest_line t.cut.digest

-- what is to be found of a capture of n frames
abbrev pub trial_of : ℕ → Trial
trial_of n = record { frames = n; first = middle_first n; last = middle_last n; whole = middle_digested n; cut = middle_digested n }

-- the lines on a capture of n frames and on its middle third
unfoldable pub trial_text : ℕ → List ℕ
trial_text n = lines_on (trial_of n)
