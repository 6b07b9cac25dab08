-- The handles of places.
use Rattle.std.specs.Prelude.{◌≡◌, ℕ, true, List, Option, Some, IsSome}
use Rattle.std.specs.Ordering.{nat_cmp}
use Rattle.std.specs.FinMap as map
use Rattle.std.specs.FinMap.{FinMap}
use Rattle.gfx_types.specs.declared.op.Place.{Place}
use Rattle.gfx_types.specs.declared.op.Place.TheVariants as place
use Rattle.gfx_model.specs.Bytes.{same_place}
use Rattle.gfx_device.specs.declared.op.Handle.{Handle}
use Rattle.gfx_replay.specs.declared.id_map.IdMap.{IdMap}

-- the handle of a memory or of an image
abbrev pub found : FinMap nat_cmp Handle → FinMap nat_cmp Handle → Place → Option Handle
found memories images (place.Memory m) = map.get memories m
found memories images (place.Image x) = map.get images x

-- the handle of a place
abbrev pub handle_of : IdMap → Place → Option Handle
handle_of ids = found ids.memories.map ids.images.map

-- for how many new places of its kind there is room
abbrev pub room_for : IdMap → Place → ℕ
room_for ids (place.Memory m) = ids.memories.spare
room_for ids (place.Image x) = ids.images.spare

-- each place has a handle of its own, under which there are bytes
pub record IsSound (handles : Place → Option Handle) (bytes : Handle → Option (List ℕ)) : Type 0 where
  pub own : (a b : Place) (h : Handle) → handles a ≡ Some h → handles b ≡ Some h → same_place a b ≡ true
  pub there : (a : Place) (h : Handle) → handles a ≡ Some h → IsSome (bytes h)
