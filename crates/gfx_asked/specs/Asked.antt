-- What is kept of the bytes that are asked for.
use Rattle.std.specs.Prelude.{◌≡◌, ℕ, Bool, false, if◌then◌else◌, Option}
use Rattle.std.specs.Option.{option_map_or}
use Rattle.std.specs.Ordering.{nat_cmp}
use Rattle.std.specs.BTreeMap as tree
use Rattle.gfx_types.specs.declared.op.Place.{Place}
use Rattle.gfx_types.specs.declared.op.Place.TheVariants as place
use Rattle.gfx_model.specs.Bytes.{same_place}
use Rattle.gfx_feature_model.specs.Asked.{Questions}
use Rattle.gfx_asked.specs.declared.offsets.Offsets.{Offsets}
use Rattle.gfx_asked.specs.declared.asked.Asked.{Asked}
use Rattle.gfx_asked.specs.Bounds.{holds}

-- the set that is kept for a place
abbrev pub offsets_at : Asked → Place → Option Offsets
offsets_at a (place.Memory m) = tree.get nat_cmp a.memories m
offsets_at a (place.Image x) = tree.get nat_cmp a.images x

-- an offset is in a set that there may be
abbrev pub has : Option Offsets → ℕ → Bool
has offsets j = option_map_or (λ o. holds o.bounds j) offsets false

-- the questions that are kept
abbrev pub questions : Asked → Questions
questions a at j = has (offsets_at a at) j

-- one place has this set now, and every other what it had
abbrev pub IsSet : (old new : Place → Option Offsets) → Place → Option Offsets → Type 0
IsSet old new here offsets = (at : Place) → new at ≡ (if same_place here at then offsets else old at)

-- two sets of questions are one
abbrev pub AreSame : Questions → Questions → Type 0
AreSame new old = (at : Place) (j : ℕ) → new at j ≡ old at j
