-- The ranges of operations, and what they leave alone.
use Rattle.std.specs.Prelude.{ℕ, ◌+◌, ◌≤◌, Bool, false, List, length, Option, IsSomeAnd}
use Rattle.std.specs.Option.{option_map}
use Rattle.std.specs.List.{AllByRecursion}
use Rattle.gfx_types.specs.declared.op.Place.{Place}
use Rattle.gfx_types.specs.declared.op.Op.{Op}
use Rattle.gfx_types.specs.declared.op.Op.TheVariants as op
use Rattle.gfx_model.specs.Bytes.{same_place}
use Rattle.gfx_device.specs.Rows.{AreWithin}
use Rattle.gfx_replay.specs.Held.{Bytes}

-- how many bytes each place has that is there
abbrev pub Sizes : Type 0
Sizes = Place → Option ℕ

-- the sizes of places that have these bytes
abbrev pub sizes_of : Bytes → Sizes
sizes_of b at = option_map length (b at)

-- n bytes from an offset on are there
abbrev pub HasRange : Sizes → Place → ℕ → ℕ → Type 0
HasRange sizes at offset n = IsSomeAnd (sizes at) (λ size. offset + n ≤ size)

-- rows of n bytes are there
abbrev pub HasRows : Sizes → Place → ℕ → ℕ → ℕ → ℕ → Type 0
HasRows sizes at offset step n rows = IsSomeAnd (sizes at) (λ size. AreWithin size offset step n rows)

-- the places of an operation are there, and its ranges lie in them
abbrev pub IsWithin : Sizes → List ℕ → Op → Type 0
IsWithin sizes given (op.Put at offset bytes) = HasRange sizes at offset (length bytes)
IsWithin sizes given (op.PutGiven at offset) = HasRange sizes at offset (length given)
IsWithin sizes given (op.Fill at offset n word) = HasRange sizes at offset n
IsWithin sizes given (op.Copy to to_offset to_step source source_offset source_step n rows) =
    HasRows sizes to to_offset to_step n rows × HasRows sizes source source_offset source_step n rows
IsWithin sizes given (op.SetLayout image layout) = Unit {0}

-- the same of all operations
abbrev pub AreAllWithin : Sizes → List ℕ → List Op → Type 0
AreAllWithin sizes given ops = AllByRecursion (IsWithin sizes given) ops

-- the operation changes bytes of this place
abbrev pub is_target : Op → Place → Bool
is_target (op.Put at offset bytes) = same_place at
is_target (op.PutGiven at offset) = same_place at
is_target (op.Fill at offset n word) = same_place at
is_target (op.Copy to to_offset to_step source source_offset source_step n rows) = same_place to
is_target (op.SetLayout image layout) = λ at. false
