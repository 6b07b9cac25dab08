-- Rows by their numbers.
use Rattle.std.specs.Prelude.{ℕ, ◌+◌, ◌==◌, if◌then◌else◌, List, [], ◌∷◌, Option, Some, None}
use Rattle.gfx_model.specs.Events.{Event}
use Rattle.gfx_model.specs.Checks.{same_list}
use Rattle.gfx_grammar.specs.Reading.{◌>>=◌}
use Rattle.gfx_text_grammar.specs.FieldReading.{Left}
use Rattle.gfx_text_grammar.specs.Rows.{Rows}

-- what the row of this number reads, where the first row has that one
unfoldable pub row_at : ℕ → Rows → ℕ → Left → Option Event
row_at first [] n left = None
row_at first (r ∷ rows) n left = if first == n then r.1 left else row_at (first + 1) rows n left

-- what the row reads, where there is one
abbrev pub row_found : ℕ → Rows → Option ℕ → Left → Option Event
row_found first rows None left = None
row_found first rows (Some n) left = row_at first rows n left

-- the place of the first name that is this one
abbrev pub place_of : List (List ℕ) → List ℕ → Option ℕ
place_of [] name = None
place_of (n ∷ names) name = if same_list n name then Some 0 else place_of names name >>= λ i. Some (i + 1)
