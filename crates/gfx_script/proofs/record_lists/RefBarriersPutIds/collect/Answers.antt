use Rattle.gfx_script.proofs.Marked.{barrier_names}
use Rattle.gfx_script.proofs.record_lists.RefBarriersPutIds.collect.Goals as goal

pub returns : goal.returns
returns c = rw (barrier_names c.args.self.now.now) (rw c.items.ensures at c.collect_records.ensures)
