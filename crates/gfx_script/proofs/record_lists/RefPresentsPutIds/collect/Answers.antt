use Rattle.gfx_script.proofs.Marked.{present_names}
use Rattle.gfx_script.proofs.record_lists.RefPresentsPutIds.collect.Goals as goal

pub returns : goal.returns
returns c = rw (present_names c.args.self.now.now) (rw c.items.ensures at c.collect_records.ensures)
