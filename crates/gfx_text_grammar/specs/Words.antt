-- Words of a text: numbers in decimal, bytes in hexadecimal, names.
use Rattle.std.specs.Prelude.{◌^◌, ℕ, ◌+◌, ◌-◌, ◌*◌, ◌==◌, nat_lt, nat_le, Bool, true, false, not, ◌&&◌, if◌then◌else◌, List, [], ◌∷◌, length, Option, Some, None}
use Rattle.std.specs.Str.{all_ascii_digits}
use Rattle.std.specs.Str.Parse.{digits_value}
use Rattle.gfx_script_model.specs.Names.{is_letter_or_digit}
use Rattle.gfx_grammar.specs.Reading.{◌>>=◌}

-- ---- where a word ends

-- the longest prefix of letters, digits and _
abbrev pub word_of : List ℕ → List ℕ
word_of [] = []
word_of (c ∷ cs) = if is_letter_or_digit c then c ∷ word_of cs else []

-- what follows it
abbrev pub after_word : List ℕ → List ℕ
after_word [] = []
after_word (c ∷ cs) = if is_letter_or_digit c then after_word cs else c ∷ cs

-- no word goes on at the start
abbrev pub ends_word : List ℕ → Bool
ends_word [] = true
ends_word (c ∷ cs) = not (is_letter_or_digit c)

-- ---- numbers

-- a digit from 1 on before it, or a zero alone
abbrev pub is_plain : List ℕ → Bool
is_plain [] = false
is_plain (c ∷ cs) = if c == 48 then length cs == 0 else true

-- decimal digits without a leading zero
unfoldable pub is_number_text : List ℕ → Bool
is_number_text word = all_ascii_digits word && is_plain word

-- the number below this limit that the word is in decimal
unfoldable pub number_in : ℕ → List ℕ → Option ℕ
number_in limit word =
    if is_number_text word && nat_lt (digits_value 10 word) limit then Some (digits_value 10 word) else None

-- ---- bytes

-- the value of a lower-case hexadecimal digit
abbrev pub hex_value : ℕ → Option ℕ
hex_value c =
    if nat_le 48 c && nat_le c 57 then Some (c - 48) else if nat_le 97 c && nat_le c 102 then Some (c - 87) else None

-- the byte of two digits
abbrev pub byte_of : ℕ → ℕ → Option ℕ
byte_of high low = hex_value high >>= λ a. hex_value low >>= λ b. Some (16 * a + b)

-- the bytes of pairs of digits
unfoldable pub bytes_of : List ℕ → Option (List ℕ)
bytes_of [] = Some []
bytes_of (h ∷ []) = None
bytes_of (h ∷ l ∷ cs) = byte_of h l >>= λ b. bytes_of cs >>= λ bs. Some (b ∷ bs)

-- as many bytes as a field may have
unfoldable pub raw_in : List ℕ → Option (List ℕ)
raw_in word = bytes_of word >>= λ bs. if nat_lt (length bs) (2 ^ 64) then Some bs else None
