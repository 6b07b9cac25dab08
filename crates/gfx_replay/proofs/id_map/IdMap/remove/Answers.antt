use Rattle.std.proofs.Common.{sym, subst, None}
use Rattle.gfx_replay.specs.Maps.{IsSet}
use Rattle.gfx_replay.specs.Handles.{found}
use Rattle.gfx_replay.proofs.Finding.{removed_memory, removed_image}
use Rattle.gfx_replay.proofs.id_map.IdMap.remove.Goals as goal

pub returns-in-Memory-clause-others : goal.returns-in-Memory-clause-others
returns-in-Memory-clause-others c =
    let old = c.args.self.now in
    subst (λ at. IsSet (found old.memories.map old.images.map) (found c.remove.new.self.map old.images.map) at None) (sym c.in-Memory.is)
    (removed_memory old.memories.map old.images.map c.remove.new.self.map c.in-Memory.id c.remove.ensures.map)

pub returns-in-Image-clause-others : goal.returns-in-Image-clause-others
returns-in-Image-clause-others c =
    let old = c.args.self.now in
    subst (λ at. IsSet (found old.memories.map old.images.map) (found old.memories.map c.remove-in-Image.new.self.map) at None) (sym c.in-Image.is)
    (removed_image old.memories.map old.images.map c.remove-in-Image.new.self.map c.in-Image.id c.remove-in-Image.ensures.map)
