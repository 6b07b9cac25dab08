use Rattle.std.proofs.Common.{rules}
use Rattle.gfx_blocks.proofs.Saying.{skipped_said, type_unsaid}
use Rattle.gfx_blocks.proofs.payload.read_payload.Goals as goal

pub returns-in-1 : goal.returns-in-1
returns-in-1 c = skipped_said c.args.minor c.args.framing.kind c.args.bytes.now (search rules)

pub returns-in_default : goal.returns-in_default
returns-in_default c = type_unsaid c.args.minor c.args.framing.kind c.args.bytes.now (search rules) (search rules) (search rules) (search rules) (search rules)
