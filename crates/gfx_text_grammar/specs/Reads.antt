-- What a reader of texts owes: what it reads shows so, and what shows so is read.
use Rattle.std.specs.Prelude.{◌≡◌, ℕ, ◌==◌, not, Bool, true, false, List, [], ◌∷◌, ◌++◌, Some}
use Rattle.std.specs.List.{list_all}
use Rattle.gfx_script_model.specs.Names.{is_letter_or_digit}
use Rattle.gfx_grammar.specs.Reading.{Reader}
use Rattle.gfx_text_grammar.specs.Words.{ends_word}
use Rattle.gfx_text_grammar.specs.Reading.{Style}

-- The reader reads the values that fit, in this text: what it takes is the text of a value that fits, and the text of one is
-- read again, where no word goes on behind it.
pub record Reads {X : Type 0} (r : Reader X) (show : X → List ℕ) (fits : X → Type 0) : Type 0 where
  pub takes : (text : List ℕ) (x : X) (rest : List ℕ) → r text ≡ Some (x, rest) → (text ≡ show x ++ rest) × fits x
  pub again : (x : X) (rest : List ℕ) → fits x → ends_word rest ≡ true → r (show x ++ rest) ≡ Some (x, rest)

-- an item of a list begins with another byte than a closing bracket
abbrev pub begins_item : List ℕ → Bool
begins_item [] = false
begins_item (c ∷ cs) = not (c == 93)

-- the style reads the ids that have a text, and their texts are words
pub record IsStyle (s : Style) : Type 0 where
  pub takes : (word : List ℕ) (n : ℕ) → s.read word ≡ Some n → (word ≡ s.ids.show n) × (s.ids.is_id n ≡ true)
  pub again : (n : ℕ) → s.ids.is_id n ≡ true
      → (s.read (s.ids.show n) ≡ Some n) × (list_all is_letter_or_digit (s.ids.show n) ≡ true)
  pub begins : (n : ℕ) → s.ids.is_id n ≡ true → begins_item (s.ids.show n) ≡ true
  pub maybe_takes : (word : List ℕ) (n : ℕ) → s.read_maybe word ≡ Some n
      → (word ≡ s.ids.show n) × (s.ids.is_maybe n ≡ true)
  pub maybe_again : (n : ℕ) → s.ids.is_maybe n ≡ true
      → (s.read_maybe (s.ids.show n) ≡ Some n) × (list_all is_letter_or_digit (s.ids.show n) ≡ true)
