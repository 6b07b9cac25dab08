-- The bytes of a device's places, and what ops make of them.
use Rattle.std.specs.Prelude.{◌≡◌, ◌≢◌, ℕ, ◌+◌, ◌≤◌, ◌==◌, Bool, if◌then◌else◌, List, [], length, Option, IsSomeAnd, unwrap_or}
use Rattle.std.specs.Option.{option_map}
use Rattle.gfx_pages.specs.Lists.{overwrite, repeated}
use Rattle.slab.specs.Slab.{get}
use Rattle.gfx_device.specs.declared.device.Device.{Device}
use Rattle.gfx_device.specs.declared.op.Handle.{Handle}
use Rattle.gfx_device.specs.declared.op.DeviceOp.{DeviceOp}
use Rattle.gfx_device.specs.declared.op.DeviceOp.TheVariants.{Put, PutGiven, Fill, Copy}
use Rattle.gfx_device.specs.declared.rows.Rows.{Rows}
use Rattle.gfx_device.specs.Rows.{AreWithin, copied}

-- the bytes under each handle that has a place
abbrev pub Places : Type 0
Places = Handle → Option (List ℕ)

-- the places of a device
abbrev pub places : Device → Places
places d handle = get d.places handle.key

-- the bytes under a handle, no byte where it has no place
abbrev pub bytes_of : Places → Handle → List ℕ
bytes_of p handle = unwrap_or (p handle) []

-- the two are one handle
abbrev pub same_handle : Handle → Handle → Bool
same_handle a b = a.key == b.key

-- the places with one of them changed
abbrev pub changed : Handle → (List ℕ → List ℕ) → Places → Places
changed at f p handle = if same_handle handle at then option_map f (p handle) else p handle

-- the new places are the old ones with one changed
abbrev pub IsChanged : Handle → (List ℕ → List ℕ) → Places → Places → Type 0
IsChanged at f old new = (handle : Handle) → new handle ≡ changed at f old handle

-- one handle has this now, and every other what it had
pub record Sets (old new : Places) (at : Handle) (bytes : Option (List ℕ)) : Type 0 where
  pub here : new at ≡ bytes
  pub others : (handle : Handle) → handle ≢ at → new handle ≡ old handle

-- all places but one are as they were, and that one has as many bytes as it had
pub record KeepsOthers (old new : Places) (at : Handle) : Type 0 where
  pub others : (handle : Handle) → handle ≢ at → new handle ≡ old handle
  pub size : option_map length (new at) ≡ option_map length (old at)

-- n bytes from a place's offset on are there
abbrev pub HasRange : Places → Handle → ℕ → ℕ → Type 0
HasRange p handle at n = IsSomeAnd (p handle) (λ bytes. at + n ≤ length bytes)

-- ---- ops

-- the place whose bytes an op changes
abbrev pub target_of : DeviceOp → Handle
target_of (Put place offset bytes) = place
target_of (PutGiven place offset) = place
target_of (Fill place offset n word) = place
target_of (Copy to to_offset to_step from from_offset from_step n rows) = to

-- the places of an op are there, and its ranges lie in them
abbrev pub IsWithin : Places → List ℕ → DeviceOp → Type 0
IsWithin p given (Put place offset bytes) = HasRange p place offset (length bytes)
IsWithin p given (PutGiven place offset) = HasRange p place offset (length given)
IsWithin p given (Fill place offset n word) = HasRange p place offset n
IsWithin p given (Copy to to_offset to_step from from_offset from_step n rows) =
    IsSomeAnd (p to) (λ bytes. AreWithin (length bytes) to_offset to_step n rows)
    × IsSomeAnd (p from) (λ bytes. AreWithin (length bytes) from_offset from_step n rows)

-- the places after an op. A copy within a place reads a row as the rows before it left the place.
abbrev pub after : DeviceOp → List ℕ → Places → Places
after (Put place offset bytes) given p = changed place (λ here. overwrite here offset bytes) p
after (PutGiven place offset) given p = changed place (λ here. overwrite here offset given) p
after (Fill place offset n word) given p = changed place (λ here. overwrite here offset (repeated word n)) p
after (Copy to to_offset to_step from from_offset from_step n rows) given p =
    let copy : Rows = record {
      to_offset = to_offset;
      to_step = to_step;
      from_offset = from_offset;
      from_step = from_step;
      length = n;
      rows = rows;
    } in
    changed to (copied copy (λ here. if same_handle to from then here else bytes_of p from) rows) p
