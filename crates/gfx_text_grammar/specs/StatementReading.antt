-- Reading of a statement of a script. The ids of its event are the numbers of its names.
use Rattle.std.specs.Prelude.{ℕ, if◌then◌else◌, List, [], ◌∷◌, Option, None, codes}
use Rattle.gfx_model.specs.Events.{Event}
use Rattle.gfx_model.specs.Checks.{same_list}
use Rattle.gfx_grammar.specs.Reading.{◌>>=◌}
use Rattle.gfx_text_grammar.specs.FieldReading.{Left, without_front}
use Rattle.gfx_text_grammar.specs.Rows.{read_event}
use Rattle.gfx_text_grammar.specs.Styles.{named}

-- the text left of =, where there is one, and the tokens right of it
abbrev pub apart_of : List (List ℕ) → Left
apart_of [] = ([], [])
apart_of (t ∷ []) = ([], t ∷ [])
apart_of (t ∷ u ∷ ts) = if same_list u (codes "=") then (t ∷ [], ts) else ([], t ∷ u ∷ ts)

-- a write, or vkCALL
abbrev pub read_worded : ℕ → List ℕ → Left → Option Event
read_worded m word left =
    if same_list word (codes "write") then read_event named m 3 (codes "FillMemory") left
    else without_front (codes "vk") word >>= λ call. read_event named m 4 call left

-- the first word, and the fields behind it
abbrev pub read_behind : ℕ → List (List ℕ) → List (List ℕ) → Option Event
read_behind m made [] = None
read_behind m made (word ∷ ts) = read_worded m word (made, ts)

-- the event of these tokens
unfoldable pub read_statement : ℕ → List (List ℕ) → Option Event
read_statement m tokens = read_behind m (apart_of tokens).0 (apart_of tokens).1
