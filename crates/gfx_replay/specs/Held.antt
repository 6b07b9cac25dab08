-- The bytes of places as the changes of a capture leave them.
use Rattle.std.specs.Prelude.{◌≡◌, ℕ, List, length, Option, Some}
use Rattle.gfx_types.specs.declared.op.Place.{Place}
use Rattle.gfx_model.specs.Steps.{Change}
use Rattle.gfx_model.specs.Bytes.{bytes_at}
use Rattle.gfx_model.specs.History.{onto}

-- the bytes of each place that is there
abbrev pub Bytes : Type 0
Bytes = Place → Option (List ℕ)

-- the bytes are those that the changes leave of the place
abbrev pub AreLeft : List Change → Place → List ℕ → Type 0
AreLeft es at bytes = bytes ≡ bytes_at es at 0 (length bytes)

-- each place has the bytes that the changes, the newest first, leave of it
pub record Holds (b : Bytes) (es : List Change) : Type 0 where
  pub left : (at : Place) (bytes : List ℕ) → b at ≡ Some bytes → AreLeft es at bytes

-- what held changes holds these, one after another, with them
abbrev pub HoldsMore : List Change → Bytes → Bytes → Type 0
HoldsMore more old new = (es : List Change) → Holds old es → Holds new (onto more es)
