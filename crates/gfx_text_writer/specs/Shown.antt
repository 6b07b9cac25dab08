-- The text of fields that are written.
use Rattle.std.specs.Prelude.{ℕ, ◌&&◌, if◌then◌else◌, List, [], ◌∷◌, flat_map}
use Rattle.gfx_model.specs.Fields.{Named, is_made}
use Rattle.gfx_script_model.specs.FieldText.{field_text}
use Rattle.gfx_text_grammar.specs.Reading.{Style}

-- texts, each behind a space
abbrev pub behind_spaces : List (List ℕ) → List ℕ
behind_spaces texts = flat_map (λ text. 32 ∷ text) texts

-- a field behind a space, where it doesn't are written apart
abbrev pub token_text : Style → Named → List ℕ
token_text s f = if is_made f.value && s.ids.apart then [] else 32 ∷ field_text s.ids.show f

-- each of these
unfoldable pub tokens_text : Style → List Named → List ℕ
tokens_text s fields = flat_map (token_text s) fields
