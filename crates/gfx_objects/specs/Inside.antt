-- What the tables of all objects are seen as, and how they belong together.
use Rattle.std.specs.Prelude.{◌≡◌, ◌+◌, ◌≤◌, Option, Some}
use Rattle.gfx_table.specs.Groups.{is_member}
use Rattle.gfx_model.specs.Views.{device_of}
use Rattle.gfx_objects.specs.declared.devices.Noted.{Noted}
use Rattle.gfx_objects.specs.declared.objects.Objects.TheInside.{Inside}
use Rattle.gfx_objects.specs.Objects.{answers, Kept, IsSound, IsIndexed, IsGrouped}
use Rattle.gfx_objects.specs.Children.{count_of}

-- the rows, the ids of what ended, the sets of what is owned, and the reserved room
abbrev pub kept_of : Inside → Kept
kept_of s = record { rows = s.rows.map; ended = s.ended; owned = s.owned.sets.map; spare = s.room }

-- each table has room for the reserved creations, and the set of ended ids for all that is live too
pub record HasRoom (s : Inside) : Type 0 where
  pub rows : s.room ≤ s.rows.spare
  pub ended : s.count + s.room ≤ s.ended.spare
  pub children : s.room ≤ s.children.counts.spare
  pub swapchains : s.room ≤ s.swapchains.counts.spare

-- what is at hand is the device of the object
abbrev pub IsNoted : Option Noted → Kept → Type 0
IsNoted noted k = (n : Noted) → noted ≡ Some n → n.device ≡ device_of (answers k) n.id

-- the rows are sound, the tables beside them fit them, there is the room that was reserved, and the device at hand is the object's
pub record IsKept (s : Inside) : Type 0 where
  pub sound : IsSound (kept_of s)
  pub indexed : IsIndexed s.rows.map (count_of s.children.counts.map) s.bytes s.count
  pub grouped : IsGrouped s.rows.map (is_member s.owned.sets.map) (is_member s.resting.sets.map) (count_of s.swapchains.counts.map)
  pub has_room : HasRoom s
  pub noted : IsNoted s.noted (kept_of s)
