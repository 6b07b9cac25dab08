use Rattle.gfx_script.proofs.Marked.{buffer_region_names}
use Rattle.gfx_script.proofs.record_lists.RefBufferRegionsPutIds.collect.Goals as goal

pub returns : goal.returns
returns c = rw (buffer_region_names c.args.self.now.now) (rw c.items.ensures at c.collect_records.ensures)
