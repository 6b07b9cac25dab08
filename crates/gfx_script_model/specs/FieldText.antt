-- The text of fields, and which fields have one. An id may be shown by any text.
use Rattle.std.specs.Prelude.{◌≡◌, ◌<◌, ◌≤◌, ◌^◌, ℕ, Bool, true, List, [], ◌∷◌, ◌++◌, map, length, codes, decimal}
use Rattle.std.specs.List.{AllByRecursion, join_with_byte}
use Rattle.gfx_types.specs.declared.lists.Submit.{Submit}
use Rattle.gfx_model.specs.Text.{hex_text}
use Rattle.gfx_model.specs.Fields.{Atom, Value, Named, atoms_of}
use Rattle.gfx_model.specs.Fields.Atom.{an_id, a_wide, a_short}
use Rattle.gfx_model.specs.Fields.Value.{names, makes, maybe, wide, short, raw, names_each, makes_each, shorts, records, submitted}

-- a list, without spaces
abbrev pub list_text : List (List ℕ) → List ℕ
list_text items = codes "[" ++ join_with_byte 44 items ++ codes "]"

-- a record, without spaces
abbrev pub record_text : List (List ℕ) → List ℕ
record_text items = codes "(" ++ join_with_byte 44 items ++ codes ")"

-- a value in a record
abbrev pub atom_text : (ℕ → List ℕ) → Atom → List ℕ
atom_text show (an_id n) = show n
atom_text show (a_wide n) = decimal n
atom_text show (a_short n) = decimal n

-- a submit: its waits, command buffers and signals
abbrev pub submit_text : (ℕ → List ℕ) → Submit → List ℕ
submit_text show s =
    record_text (list_text (map show s.waits) ∷ list_text (map show s.cbs) ∷ list_text (map show s.signals) ∷ [])

-- the value of a field
abbrev pub value_text : (ℕ → List ℕ) → Value → List ℕ
value_text show (names n) = show n
value_text show (makes n) = show n
value_text show (maybe n) = show n
value_text show (wide n) = decimal n
value_text show (short n) = decimal n
value_text show (raw bytes) = hex_text bytes
value_text show (names_each xs) = list_text (map show xs)
value_text show (makes_each xs) = list_text (map show xs)
value_text show (shorts xs) = list_text (map decimal xs)
value_text show (records rs) = list_text (map (λ r. record_text (map (atom_text show) r)) (atoms_of rs))
value_text show (submitted ss) = list_text (map (submit_text show) ss)

-- field=value
abbrev pub field_text : (ℕ → List ℕ) → Named → List ℕ
field_text show f = f.name ++ codes "=" ++ value_text show f.value

-- ---- which fields have a text

-- How ids are written: the text of an id, which ids have one, and which have one in a field that may name none. What a call
-- creates may occur apart from its fields, left of them.
pub record IdStyle : Type 0 where
  pub show : ℕ → List ℕ
  pub is_id : ℕ → Bool
  pub is_maybe : ℕ → Bool
  pub apart : Bool

-- the id has a text
abbrev pub IdFits : IdStyle → ℕ → Type 0
IdFits s n = s.is_id n ≡ true

-- a value in a record
abbrev pub AtomFits : IdStyle → Atom → Type 0
AtomFits s (an_id n) = IdFits s n
AtomFits s (a_wide n) = n < 2 ^ 64
AtomFits s (a_short n) = n < 2 ^ 32

-- a list with few enough items, each of which fits
abbrev pub ListFits : {X : Type 0} → (X → Type 0) → List X → Type 0
ListFits fits xs = (length xs < 2 ^ 32) × AllByRecursion fits xs

-- a submit: its waits, command buffers and signals
abbrev pub SubmitFits : IdStyle → Submit → Type 0
SubmitFits s x = ListFits (IdFits s) x.waits × (ListFits (IdFits s) x.cbs × ListFits (IdFits s) x.signals)

-- the value has a text: its ids do, and its numbers, bytes and lists fit; what is written apart is at least one id
abbrev pub ValueFits : IdStyle → Value → Type 0
ValueFits s (names n) = IdFits s n
ValueFits s (makes n) = IdFits s n
ValueFits s (maybe n) = s.is_maybe n ≡ true
ValueFits s (wide n) = n < 2 ^ 64
ValueFits s (short n) = n < 2 ^ 32
ValueFits s (raw bytes) = (length bytes < 2 ^ 64) × AllByRecursion (λ b. b < 256) bytes
ValueFits s (names_each xs) = ListFits (IdFits s) xs
ValueFits s (makes_each xs) = (s.apart ≡ true → 1 ≤ length xs) × ListFits (IdFits s) xs
ValueFits s (shorts xs) = ListFits (λ n. n < 2 ^ 32) xs
ValueFits s (records rs) = ListFits (AllByRecursion (AtomFits s)) (atoms_of rs)
ValueFits s (submitted xs) = ListFits (SubmitFits s) xs

-- each field has a text
abbrev pub FieldsFit : IdStyle → List Named → Type 0
FieldsFit s fs = AllByRecursion (λ f. ValueFits s f.value) fs
