-- What a section reads, from answers and the bytes of places.
use Rattle.std.specs.Prelude.{ℕ, List, [], Option, unwrap_or}
use Rattle.gfx_types.specs.declared.op.Place.{Place}
use Rattle.gfx_model.specs.Views.{View}
use Rattle.gfx_model.specs.Section.{Known}

-- the answers, and no bytes
abbrev pub plain : View → Known
plain v = record { answers = v; es = [] }

-- the bytes of a place, none where there is no such place
abbrev pub bytes_in : (Place → Option (List ℕ)) → Place → List ℕ
bytes_in bytes at = unwrap_or (bytes at) []
