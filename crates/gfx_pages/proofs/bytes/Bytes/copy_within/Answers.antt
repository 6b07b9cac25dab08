use Rattle.std.proofs.lemmas.Result.{on_ok_weaker}
use Rattle.gfx_pages.proofs.Lists.{copied_is}
use Rattle.gfx_pages.proofs.bytes.Bytes.copy_within.Goals as goal

pub returns-then-to-from-clause-ok : goal.returns-then-to-from-clause-ok
returns-then-to-from-clause-ok c = on_ok_weaker c.copy_down.result (copied_is _ c.args.to _ _ c.args.from c.args.count c.requires.there) c.copy_down.ensures.ok

pub returns-else-to-from-clause-ok : goal.returns-else-to-from-clause-ok
returns-else-to-from-clause-ok c = on_ok_weaker c.copy_up.result (copied_is _ c.args.to _ _ c.args.from c.args.count c.requires.there) c.copy_up.ensures.ok
