-- Names in scripts, and the numbers that stand for them: the code of a name, whose digits to the base 128 are its bytes, the
-- first one the lowest. So the ids of an event can say names.
use Rattle.std.specs.Prelude.{ℕ, zero, suc, ◌+◌, ◌*◌, ◌/◌, ◌%◌, ◌==◌, nat_le, Bool, true, false, ◌&&◌, ◌||◌, if◌then◌else◌, List, [], ◌∷◌, length, codes}
use Rattle.std.specs.List.{list_all}
use Rattle.gfx_script_model.specs.FieldText.{IdStyle}

-- a to z or _
abbrev pub is_letter : ℕ → Bool
is_letter c = c == 95 || nat_le 97 c && nat_le c 122

-- a to z, 0 to 9 or _
abbrev pub is_letter_or_digit : ℕ → Bool
is_letter_or_digit c = is_letter c || nat_le 48 c && nat_le c 57

-- a letter, and up to 31 letters and digits
abbrev pub is_name : List ℕ → Bool
is_name [] = false
is_name (c ∷ cs) = is_letter c && list_all is_letter_or_digit cs && nat_le (length cs) 31

-- the code of a name
abbrev pub code : List ℕ → ℕ
code [] = 0
code (c ∷ cs) = c + 128 * code cs

-- the digits of a number, at most so many
unfoldable pub digits_within : ℕ → ℕ → List ℕ
digits_within zero n = []
digits_within (suc k) n = if n == 0 then [] else (n % 128) ∷ digits_within k (n / 128)

-- the text of an id in a script: 0 for none, and otherwise the name whose code it is
abbrev pub name_of : ℕ → List ℕ
name_of n = if n == 0 then codes "0" else digits_within 32 n

-- the number is the code of a name
abbrev pub is_code : ℕ → Bool
is_code n = is_name (name_of n) && code (name_of n) == n

-- in a script each id is a name, and the names of what a call creates are written apart from its fields
abbrev pub named_ids : IdStyle
named_ids = record { show = name_of; is_id = is_code; is_maybe = λ n. n == 0 || is_code n; apart = true }
