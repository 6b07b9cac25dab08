-- Fields by the bytes of their names.
use Rattle.std.specs.Prelude.{ℕ, if◌then◌else◌, List, map, Option, Some}
use Rattle.gfx_grammar.specs.Reading.{◌>>=◌, Reader}
use Rattle.gfx_text_grammar.specs.Reading.{Style}
use Rattle.gfx_text_grammar.specs.FieldReading.{FieldReader, read_first, read_apart, named_value}
use Rattle.gfx_text_grammar.specs.FieldReading.{Left as Texts}
use Rattle.gfx_text.specs.declared.fields.Left.{Left}

-- the texts that are left
abbrev pub left_of : Left → Texts
left_of left = (map (λ t. t.now) left.made.now, map (λ t. t.now) left.fields.now)

-- one token
abbrev pub field_named : {X : Type 0} → List ℕ → Reader X → FieldReader X
field_named name r left = read_first (named_value name r) left.1 >>= λ x. Some (x.0, (left.0, x.1))

-- a field that the call creates
abbrev pub made_named : {X : Type 0} → Style → List ℕ → Reader X → (List ℕ → Option X) → FieldReader X
made_named s name r value left = if s.ids.apart then read_apart value left else field_named name r left
