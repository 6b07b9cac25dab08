-- The bytes of the places of a replay.
use Rattle.std.specs.Prelude.{ℕ, List, Option, option_and_then}
use Rattle.gfx_types.specs.declared.op.Place.{Place}
use Rattle.gfx_device.specs.Places.{places}
use Rattle.gfx_device.specs.declared.op.Handle.{Handle}
use Rattle.gfx_replay.specs.Handles.{handle_of}
use Rattle.gfx_replay.specs.Held.{Bytes}
use Rattle.gfx_replay.specs.Ranges.{Sizes, sizes_of}
use Rattle.gfx_replay.specs.declared.places.Places.{Places}

-- the bytes under the handles of places
abbrev pub through : (Place → Option Handle) → (Handle → Option (List ℕ)) → Bytes
through handles bytes at = option_and_then bytes (handles at)

-- the bytes of each place of a replay
abbrev pub bytes_in : Places → Bytes
bytes_in p = through (handle_of p.ids) (places p.device)

-- how many bytes each place has
abbrev pub sizes_in : Places → Sizes
sizes_in p = sizes_of (bytes_in p)
