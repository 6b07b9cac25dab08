use Rattle.std.proofs.Common.{ap, ◌∷◌, []}
use Rattle.std.specs.Prelude.{option_map}
use Rattle.std.specs.Option.{option_map_or}
use Rattle.gfx_model.specs.Events.Event.{MapMemory}
use Rattle.gfx_model.specs.Questions.{range_of}
use Rattle.gfx_state.proofs.Writing.{wrote_none}
use Rattle.gfx_state.proofs.memory.write_map.Goals as goal

pub returns-in-None : goal.returns-in-None
returns-in-None g c = wrote_none (ap (λ m. option_map_or (λ r. MapMemory c.args.device c.args.memory r.offset r.length ∷ []) (option_map range_of m) []) c.in-None.is)
