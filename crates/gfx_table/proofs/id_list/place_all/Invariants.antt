use Rattle.std.proofs.Common.{◌≡◌, ◌≤◌, ◌+◌, take}
use Rattle.gfx_table.specs.IdList.{places_in}
use Rattle.gfx_table.proofs.id_list.place_all.Given as goal

-- those so far have their places
abbrev pub invariant-ids : goal.invariant-ids
invariant-ids l = (l.places.map ≡ places_in (take l.place l.ids)) × (l.fn.places.spare ≤ l.places.spare + l.place)
