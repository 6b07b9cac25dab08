-- Reading of fields: the ids that are written apart, and tokens `field=value`.
use Rattle.std.specs.Prelude.{◌≡◌, ℕ, ◌&&◌, if◌then◌else◌, List, [], ◌∷◌, ◌++◌, map, Option, Some, None, codes}
use Prim.Native.String.{String}
use Rattle.std.specs.List.{join_with_byte}
use Rattle.gfx_model.specs.Fields.{Value, Named, is_made, named_fields}
use Rattle.gfx_script_model.specs.FieldText.{field_text, FieldsFit}
use Rattle.gfx_script_model.specs.Ids.{made_by}
use Rattle.gfx_grammar.specs.Reading.{◌>>=◌, Reader}
use Rattle.gfx_grammar.specs.Rows.{if_none_left}
use Rattle.gfx_text_grammar.specs.Reading.{Style, behind, read_id, read_ids}
use Rattle.gfx_model.specs.Events.{Event}
use Rattle.gfx_model.specs.Spelling.{IsOfVersion, type_of}
use Rattle.gfx_script_model.specs.EventNames.{event_name}

-- what is not read yet: the texts of ids that are written apart, and the tokens
abbrev pub Left : Type 0
Left = List (List ℕ) × List (List ℕ)

-- what is read of the prefix, and what is left
abbrev pub FieldReader : Type 0 → Type 0
FieldReader X = Left → Option (X × Left)

-- the value of the text, all of it
unfoldable pub whole : {X : Type 0} → Reader X → List ℕ → Option X
whole r text = r text >>= λ x. if_none_left x.0 x.1

-- the text after this prefix
abbrev pub without_front : List ℕ → List ℕ → Option (List ℕ)
without_front [] text = Some text
without_front (c ∷ cs) text = behind c text >>= without_front cs

-- the value of the first text, and the texts behind it
abbrev pub read_first : {X : Type 0} → (List ℕ → Option X) → List (List ℕ) → Option (X × List (List ℕ))
read_first value [] = None
read_first value (t ∷ ts) = value t >>= λ x. Some (x, ts)

-- the value of the field of this name
abbrev pub named_value : {X : Type 0} → List ℕ → Reader X → List ℕ → Option X
named_value name r token = without_front (name ++ codes "=") token >>= whole r

-- one token
unfoldable pub read_field : {X : Type 0} → String → Reader X → FieldReader X
read_field name r left = read_first (named_value (codes name) r) left.1 >>= λ x. Some (x.0, (left.0, x.1))

-- the first text that is written apart
abbrev pub read_apart : {X : Type 0} → (List ℕ → Option X) → FieldReader X
read_apart value left = read_first value left.0 >>= λ x. Some (x.0, (x.1, left.1))

-- a field that the call creates: its text, where it is written apart, is read by `value`
unfoldable pub read_made : {X : Type 0} → Style → String → Reader X → (List ℕ → Option X) → FieldReader X
read_made s name r value left =
    if s.ids.apart then read_apart value left else read_field name r left

-- one id that is written apart
abbrev pub one_apart : Style → List ℕ → Option ℕ
one_apart s text = whole (read_id s) text

-- some item, at least
abbrev pub if_any : List ℕ → Option (List ℕ)
if_any [] = None
if_any (x ∷ xs) = Some (x ∷ xs)

-- ids that are written apart, with a comma between each two: a list without its brackets
abbrev pub each_apart : Style → List ℕ → Option (List ℕ)
each_apart s text = whole (read_ids s) (91 ∷ text ++ 93 ∷ []) >>= if_any

-- an id that the call creates
abbrev pub read_new : Style → String → FieldReader ℕ
read_new s name = read_made s name (read_id s) (one_apart s)

-- ids that the call creates
abbrev pub read_new_each : Style → String → FieldReader (List ℕ)
read_new_each s name = read_made s name (read_ids s) (each_apart s)

-- one after the other
unfoldable pub read_both : {A B : Type 0} → FieldReader A → FieldReader B → FieldReader (A × B)
read_both r s left = r left >>= λ x. s x.1 >>= λ y. Some ((x.0, y.0), y.1)

-- a field and the fields behind it
infixr 12 ◌⊛◌
abbrev pub ◌⊛◌ : {A B : Type 0} → FieldReader A → FieldReader B → FieldReader (A × B)
r ⊛ s = read_both r s

-- ---- the text of fields

-- the ids that a value creates, where they are written apart
abbrev pub made_text : Style → Value → List ℕ
made_text s v = join_with_byte 44 (map s.ids.show (made_by v))

-- a field, and what is left behind it
abbrev pub with_field : Style → Named → Left → Left
with_field s f left =
    if s.ids.apart && is_made f.value then (made_text s f.value ∷ left.0, left.1)
    else (left.0, field_text s.ids.show f ∷ left.1)

-- fields, and what is left behind them
abbrev pub with_fields : Style → List Named → Left → Left
with_fields s [] left = left
with_fields s (f ∷ fs) left = with_field s f (with_fields s fs left)

-- The reader reads the values of which these are the fields, and nothing else.
pub record ReadsFields {X : Type 0} (s : Style) (r : FieldReader X) (fields : X → List Named) : Type 0 where
  pub takes : (left : Left) (x : X) (rest : Left) → r left ≡ Some (x, rest)
      → (left ≡ with_fields s (fields x) rest) × FieldsFit s.ids (fields x)
  pub again : (x : X) (rest : Left) → FieldsFit s.ids (fields x) → r (with_fields s (fields x) rest) ≡ Some (x, rest)

-- ---- an event

-- nothing is left
abbrev pub nothing : Left
nothing = ([], [])

-- the event of this type and name has these fields, and nothing else is left
abbrev pub ShowsFields : Style → (minor kind : ℕ) (name : List ℕ) → Left → Event → Type 0
ShowsFields s m kind name left e =
    FieldsFit s.ids (named_fields m e) × (left ≡ with_fields s (named_fields m e) nothing) × IsOfVersion m e
    × (event_name e ≡ name) × (type_of e ≡ kind)
