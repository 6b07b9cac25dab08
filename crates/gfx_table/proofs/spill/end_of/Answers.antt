use Rattle.std.proofs.Common.{nat_le, rules}
use Rattle.std.proofs.lemmas.List.Sorted.{IsPartitionPoint-from_clause}
use Rattle.gfx_table.proofs.Places.{parted_by_id, ended}
use Rattle.gfx_table.proofs.spill.end_of.Goals as goal

pub returns : goal.returns
returns g c =
    let es = c.args.entries.now in
    let parted = IsPartitionPoint-from_clause (λ e. nat_le e.0 c.args.id) es _ c.partition_point.ensures.partitioned (parted_by_id es c.args.id c.requires) (λ a r f called. (search rules, search rules)) in
    ended es c.args.id _ c.partition_point.ensures.bound parted
