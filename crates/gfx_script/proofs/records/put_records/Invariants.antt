use Rattle.std.proofs.Common.{map, flat_map, take}
use Rattle.gfx_script.specs.Puts.{TakesNamed}
use Rattle.gfx_script.proofs.records.put_records.Given as goal

-- the records so far took the first ids
abbrev pub invariant-records : goal.invariant-records
invariant-records g l =
    let item = g.T.RecordIds in
    TakesNamed (flat_map item.named) (map item.blank) (take l.record-index l.records) l.ids l.put.items l.left
