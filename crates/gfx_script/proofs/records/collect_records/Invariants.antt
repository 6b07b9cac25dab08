use Rattle.std.proofs.Common.{◌≡◌, ◌++◌, flat_map, take}
use Rattle.gfx_script.proofs.records.collect_records.Given as goal

-- the ids of the records so far were appended
abbrev pub invariant-records : goal.invariant-records
invariant-records g l = l.ids.items ≡ l.fn.ids.items ++ flat_map g.T.RecordIds.named (take l.record-index l.records)
