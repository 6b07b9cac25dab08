-- Statements with the numbers of names in place of their codes.
use Rattle.std.specs.Prelude.{ℕ, ◌==◌, nat_eq, Bool, ◌-◌, ◌^◌, if◌then◌else◌, List, [], ◌∷◌, Option, None, unwrap_or, codes}
use Rattle.std.specs.List.{slice_split}
use Rattle.gfx_model.specs.Events.{Event}
use Rattle.gfx_model.specs.Checks.{same_list}
use Rattle.gfx_script_model.specs.Names.{name_of}
use Rattle.gfx_script_model.specs.Scripts.{Defined, number_of, may_use}
use Rattle.gfx_grammar.specs.Reading.{◌>>=◌}
use Rattle.gfx_text_grammar.specs.Reading.{Style}
use Rattle.gfx_text_grammar.specs.FieldReading.{Left, without_front}
use Rattle.gfx_text_grammar.specs.Rows.{read_event}
use Rattle.gfx_text_grammar.specs.StatementReading.{apart_of}
use Rattle.gfx_text_grammar.specs.Styles.{named}
use Rattle.gfx_text.specs.Renumbered.{renumbered}

-- what stands for a name that may not be used
abbrev pub unknown : ℕ
unknown = 2 ^ 64 - 1

-- the number is one that no name has
abbrev pub is_unknown : ℕ → Bool
is_unknown n = nat_eq n unknown

-- the number of the name with this code, where a line of this thread in this phase may use it
abbrev pub number_for : (phase thread : ℕ) → List Defined → ℕ → ℕ
number_for phase thread names k = if k == 0 then 0 else unwrap_or (number_of (may_use phase thread) names (name_of k)) unknown

-- a write, or vkCALL, in any style
abbrev pub worded_by : Style → ℕ → List ℕ → Left → Option Event
worded_by s m word left =
    if same_list word (codes "write") then read_event s m 3 (codes "FillMemory") left
    else without_front (codes "vk") word >>= λ call. read_event s m 4 call left

-- the first word, and the fields behind it
abbrev pub behind_by : Style → ℕ → List (List ℕ) → List (List ℕ) → Option Event
behind_by s m made [] = None
behind_by s m made (word ∷ ts) = worded_by s m word (made, ts)

-- the event of these tokens in any style
unfoldable pub statement_by : Style → ℕ → List (List ℕ) → Option Event
statement_by s m tokens = behind_by s m (apart_of tokens).0 (apart_of tokens).1

-- the event of these tokens with the numbers of the names that a line of this thread in this phase may use
abbrev pub seen_by : (phase thread : ℕ) → List Defined → ℕ → List (List ℕ) → Option Event
seen_by phase thread names m tokens = statement_by (renumbered (number_for phase thread names) named) m tokens

-- the texts that are written apart, between their commas
abbrev pub made_texts : List (List ℕ) → List (List ℕ)
made_texts [] = []
made_texts (t ∷ ts) = slice_split (λ c. c == 44) t
