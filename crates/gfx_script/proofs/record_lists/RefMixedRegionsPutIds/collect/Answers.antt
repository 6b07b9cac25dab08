use Rattle.gfx_script.proofs.Marked.{mixed_region_names}
use Rattle.gfx_script.proofs.record_lists.RefMixedRegionsPutIds.collect.Goals as goal

pub returns : goal.returns
returns c = rw (mixed_region_names c.args.self.now.now) (rw c.items.ensures at c.collect_records.ensures)
