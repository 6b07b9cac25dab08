use Rattle.std.proofs.Common.{◌≡◌, take, map}
use Rattle.gfx_recorder.specs.Ids.{id_in}
use Rattle.gfx_recorder.proofs.names.ids_of.Given as goal

-- the ids of the names so far
abbrev pub invariant-names : goal.invariant-names
invariant-names l = l.ids.items ≡ map (id_in l.table) (take l.name-index l.names)
