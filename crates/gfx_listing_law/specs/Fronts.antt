-- Texts that begin with lines of a listing, and the first line with which they stop doing so.
use Rattle.std.specs.Prelude.{◌≡◌, ◌≢◌, ◌⊎◌, ◌≤◌, ◌^◌, ℕ, ◌+◌, ◌==◌, true, if◌then◌else◌, List, [], ◌∷◌, ◌++◌, length, flat_map, None, is_some}
use Rattle.std.specs.Option.{option_map_or}
use Rattle.gfx_model.specs.Text.{line}
use Rattle.gfx_text_grammar.specs.Splits.{is_without}
use Rattle.gfx_text_grammar.specs.Listings.{file_of, read_lines}

-- a line has fewer bytes
abbrev pub max_line_bytes : ℕ
max_line_bytes = 2 ^ 29

-- the lines are a listing, or there are none yet
abbrev pub AreRead : List (List ℕ) → Type 0
AreRead lines = (lines ≡ []) ⊎ (is_some (read_lines lines) ≡ true)

-- the bytes that these lines list
abbrev pub bytes_in : List (List ℕ) → List ℕ
bytes_in lines = option_map_or file_of (read_lines lines) []

-- the text begins with these lines, which are a listing or none yet, and goes on with the rest
pub record BeginsWith (lines : List (List ℕ)) (rest text : List ℕ) : Type 0 where
  pub parts : text ≡ flat_map line lines ++ rest
  pub are_read : AreRead lines

-- the rest begins with a whole line, and no listing begins with the lines and this one behind them
abbrev pub IsNoLine : List (List ℕ) → List ℕ → Type 0
IsNoLine lines rest =
    (next more : List ℕ) × (rest ≡ line next ++ more) × (is_without 10 next ≡ true) × (read_lines (lines ++ next ∷ []) ≡ None)

-- the rest ends without a line feed, and isn't the end behind the lines of a listing
abbrev pub IsCutLine : List (List ℕ) → List ℕ → Type 0
IsCutLine lines rest = (is_without 10 rest ≡ true) × ((lines ≡ []) ⊎ (rest ≢ []))

-- the rest begins with more bytes than a line has
abbrev pub IsLongLine : List ℕ → Type 0
IsLongLine rest = (next more : List ℕ) × (rest ≡ next ++ more) × (is_without 10 next ≡ true) × (max_line_bytes ≤ length next)

-- the text is no listing from this line on, and from none before it
pub record IsBadAtLine (number : ℕ) (text : List ℕ) : Type 0 where
  pub lines : List (List ℕ)
  pub rest : List ℕ
  pub begins : BeginsWith lines rest text
  pub number_is : number ≡ length lines + 1
  pub stops : IsNoLine lines rest ⊎ (IsCutLine lines rest ⊎ IsLongLine rest)

-- ---- what a text lists, as far as it is a listing

-- a byte more before the first of these lines, where there is one
abbrev pub onto_first : ℕ → List (List ℕ) → List (List ℕ)
onto_first c [] = []
onto_first c (l ∷ ls) = (c ∷ l) ∷ ls

-- the lines of a text that end with a line feed
unfoldable pub ended_lines : List ℕ → List (List ℕ)
ended_lines [] = []
ended_lines (c ∷ cs) = if c == 10 then [] ∷ ended_lines cs else onto_first c (ended_lines cs)

-- these lines and as many of those behind them as are a listing with them
unfoldable pub readable : List (List ℕ) → List (List ℕ) → List (List ℕ)
readable lines [] = lines
readable lines (l ∷ ls) = if is_some (read_lines (lines ++ l ∷ [])) then readable (lines ++ l ∷ []) ls else lines

-- the bytes that the first lines of a text list, up to the first that is no line of a listing
abbrev pub unlisted : List ℕ → List ℕ
unlisted text = bytes_in (readable [] (ended_lines text))
