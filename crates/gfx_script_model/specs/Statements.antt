-- The lines, tokens and statements of the script language.
use Rattle.std.specs.Prelude.{◌≡◌, ◌≤◌, ℕ, ◌==◌, Bool, true, false, not, if◌then◌else◌, List, [], ◌∷◌, ◌++◌, map, filter, codes, decimal, IsTrue}
use Rattle.std.specs.List.{slice_split, join_with_byte, onto_first}
use Rattle.gfx_model.specs.Events.{Event}
use Rattle.gfx_model.specs.Events.Event.{FillMemory}
use Rattle.gfx_model.specs.Spelling.{IsOfVersion, type_of}
use Rattle.gfx_model.specs.Fields.{named_fields, is_made}
use Rattle.gfx_script_model.specs.EventNames.{event_name}
use Rattle.gfx_script_model.specs.FieldText.{field_text, FieldsFit}
use Rattle.gfx_script_model.specs.Ids.{defines_of}
use Rattle.gfx_script_model.specs.Names.{name_of, named_ids}

-- ---- lines and tokens

-- the lines of a text, which end with a line feed or with the text
abbrev pub lines_of : List ℕ → List (List ℕ)
lines_of [] = []
lines_of (c ∷ cs) = if c == 10 then [] ∷ lines_of cs else onto_first c (lines_of cs)

-- the list has no item
abbrev pub is_empty : {X : Type 0} → List X → Bool
is_empty [] = true
is_empty (_ ∷ _) = false

-- what is between spaces
abbrev pub tokens_of : List ℕ → List (List ℕ)
tokens_of line = filter (λ t. not (is_empty t)) (slice_split (λ c. c == 32) line)

-- a line that is skipped: without tokens, or whose first token begins with #
abbrev pub is_skipped : List (List ℕ) → Bool
is_skipped [] = true
is_skipped ([] ∷ ts) = false
is_skipped ((c ∷ cs) ∷ ts) = c == 35

-- ---- statements

-- the first word of a statement
abbrev pub statement_word : Event → List ℕ
statement_word (FillMemory memory offset bytes) = codes "write"
statement_word e = codes "vk" ++ event_name e

-- NAMES and =, where the call creates ids
abbrev pub defining : List ℕ → List (List ℕ)
defining [] = []
defining (k ∷ ks) = join_with_byte 44 (map name_of (k ∷ ks)) ∷ codes "=" ∷ []

-- the tokens of a statement, its ids being codes of names
unfoldable pub statement_tokens : ℕ → Event → List (List ℕ)
statement_tokens m e =
    defining (defines_of m e)
    ++ statement_word e
    ∷ map (field_text name_of) (filter (λ f. not (is_made f.value)) (named_fields m e))

-- a call, or a write
abbrev pub may_be_written : Event → Bool
may_be_written (FillMemory memory offset bytes) = true
may_be_written e = type_of e == 4

-- the tokens are the statement of this event, whose ids are codes of names
pub record IsStatement (m : ℕ) (tokens : List (List ℕ)) (e : Event) : Type 0 where
  pub written : IsTrue (may_be_written e)
  pub fits : FieldsFit named_ids (named_fields m e)
  pub version : IsOfVersion m e
  pub same : tokens ≡ statement_tokens m e

-- ---- forms of a line

-- what a line is
pub data Form : Type 0 where
  skips sets_version begins_phase : Form
  begins_thread : ℕ → Form
  states : Event → Form

-- the tokens have this form
abbrev pub IsForm : ℕ → List (List ℕ) → Form → Type 0
IsForm m tokens skips = IsTrue (is_skipped tokens)
IsForm m tokens sets_version = tokens ≡ codes "version" ∷ codes "2" ∷ []
IsForm m tokens begins_phase = tokens ≡ codes "phase" ∷ []
IsForm m tokens (begins_thread n) = (n ≤ 63) × (tokens ≡ codes "thread" ∷ decimal n ∷ [])
IsForm m tokens (states e) = IsStatement m tokens e
