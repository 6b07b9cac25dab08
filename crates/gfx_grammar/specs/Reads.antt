-- What a reader of fields owes: what it reads is spelled so, and what is spelled so is read.
use Rattle.std.specs.Prelude.{◌≡◌, ◌<◌, ℕ, List, [], ◌∷◌, ◌++◌, flat_map, get_or, Some}
use Rattle.std.specs.List.{AllByRecursion}
use Rattle.gfx_model.specs.Spelling.{Field, u64, raw, field_bytes, FieldFits}
use Rattle.gfx_grammar.specs.Reading.{Reader}

-- each item is a byte
abbrev pub AreBytes : List ℕ → Type 0
AreBytes bytes = (i : ℕ) → get_or bytes i 0 < 256

-- the fields have a spelling
abbrev pub Fits : List Field → Type 0
Fits fields = AllByRecursion FieldFits fields

-- and this is it
abbrev pub text_of : List Field → List ℕ
text_of fields = flat_map field_bytes fields

-- the bytes are this text and the rest
pub record Takes (bytes text rest : List ℕ) : Type 0 where
  pub parts : bytes ≡ text ++ rest
  pub rest_bytes : AreBytes rest

-- the reader reads the values of which these are the fields: what it takes is spelled so, and what is spelled so is read again
pub record Reads {X : Type 0} (r : Reader X) (fields : X → List Field) : Type 0 where
  pub takes : (bytes : List ℕ) (x : X) (rest : List ℕ) → AreBytes bytes → r bytes ≡ Some (x, rest) → Takes bytes (text_of (fields x)) rest × Fits (fields x)
  pub again : (x : X) (rest : List ℕ) → Fits (fields x) → r (text_of (fields x) ++ rest) ≡ Some (x, rest)

-- a number of eight bytes as one field
abbrev pub u64_fields : ℕ → List Field
u64_fields n = u64 n ∷ []

-- bytes as one field
abbrev pub raw_fields : List ℕ → List Field
raw_fields bytes = raw bytes ∷ []
