use Rattle.std.proofs.Common.{ap, ◌∙◌, nat_eq}
use Rattle.gfx_commands.specs.Recorded.{event_in}
use Rattle.gfx_commands.proofs.Running.{barrier_number}
use Rattle.gfx_commands.proofs.recorded.Recorded.is_barrier.Goals as goal

pub returns : goal.returns
returns c = ap (λ n. nat_eq n 26) c.requires.number ∙ barrier_number (event_in c.args.self.now)
