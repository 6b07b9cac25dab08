use Rattle.gfx_script.proofs.Marked.{image_region_names}
use Rattle.gfx_script.proofs.record_lists.RefImageRegionsPutIds.collect.Goals as goal

pub returns : goal.returns
returns c = rw (image_region_names c.args.self.now.now) (rw c.items.ensures at c.collect_records.ensures)
