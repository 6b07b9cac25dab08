-- What is kept for places, before and after a change.
use Rattle.std.specs.Prelude.{◌≡◌, ℕ, Bool, true, false, if◌then◌else◌, List, Option, None}
use Rattle.std.specs.Option.{option_or}
use Rattle.gfx_types.specs.declared.op.Place.{Place}
use Rattle.gfx_types.specs.declared.op.Place.TheVariants as place
use Rattle.gfx_model.specs.Bytes.{same_place}
use Rattle.gfx_model.specs.Checks.{is_among}

-- all places have what they had
abbrev pub IsSame : {X : Type 0} → (Place → Option X) → (Place → Option X) → Type 0
IsSame old new = (at : Place) → new at ≡ old at

-- one place has this now, and every other what it had
abbrev pub IsSet : {X : Type 0} → (Place → Option X) → (Place → Option X) → Place → Option X → Type 0
IsSet old new here x = (at : Place) → new at ≡ (if same_place here at then x else old at)

-- the place of an image with one of these ids
abbrev pub is_image_among : List ℕ → Place → Bool
is_image_among ids (place.Memory m) = false
is_image_among ids (place.Image x) = is_among x ids

-- images with these ids that had nothing have what f gives them, and every other place what it had
abbrev pub IsGiven : {X : Type 0} → (Place → Option X) → (Place → Option X) → List ℕ → (Place → Option X) → Type 0
IsGiven old new ids f = (at : Place) → new at ≡ option_or (old at) (if is_image_among ids at then f at else None)

-- the place is no image's, or that of an image that passes the test
abbrev pub is_no_other_image : (ℕ → Bool) → Place → Bool
is_no_other_image test (place.Memory m) = true
is_no_other_image test (place.Image x) = test x

-- images that do not pass the test have nothing now, and every other place what it had
abbrev pub IsKept : {X : Type 0} → (Place → Option X) → (Place → Option X) → (ℕ → Bool) → Type 0
IsKept old new test = (at : Place) → new at ≡ (if is_no_other_image test at then old at else None)
