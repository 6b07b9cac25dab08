use Rattle.std.proofs.Common.{refl}
use Rattle.gfx_capture.specs.Entry.{entries_in}
use Rattle.gfx_capture.proofs.Logs.{empty_log}
use Rattle.gfx_capture.proofs.log.Log.new.Goals as goal

pub invariant_of-result : goal.invariant_of-result
invariant_of-result c = let empty = c.new-bytes.ensures.items in empty_log c.args.minor _ _ c.requires (rw empty at c.in_ok-put_header.ensures.ok) c.new.ensures

pub returns-clause-empty : goal.returns-clause-empty
unfolding entries_in
returns-clause-empty c = refl
