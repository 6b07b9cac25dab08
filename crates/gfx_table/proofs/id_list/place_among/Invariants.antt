use Rattle.std.proofs.Common.{◌≡◌, false, take}
use Rattle.gfx_table.specs.Dense.{is_listed}
use Rattle.gfx_table.proofs.id_list.place_among.Given as goal

-- the id is none of those so far
abbrev pub invariant-ids : goal.invariant-ids
invariant-ids l = is_listed l.id (take l.place l.ids) ≡ false
