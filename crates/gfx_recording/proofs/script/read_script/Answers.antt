use Rattle.gfx_recording.proofs.Length.{parses_small}
use Rattle.gfx_recording.proofs.script.read_script.Goals as goal

pub returns-in-Ok-clause-small : goal.returns-in-Ok-clause-small
returns-in-Ok-clause-small c = parses_small c.args.text.now _ _ c.in-Ok.ensures.0
