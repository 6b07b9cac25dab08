use Rattle.std.proofs.Common.{sym, subst, Some}
use Rattle.gfx_replay.specs.Maps.{IsSet}
use Rattle.gfx_replay.specs.Handles.{found}
use Rattle.gfx_replay.proofs.Finding.{set_memory, set_image}
use Rattle.gfx_replay.proofs.id_map.IdMap.set.Goals as goal

pub returns-in-Memory : goal.returns-in-Memory
returns-in-Memory c =
    let old = c.args.self.now in
    subst (λ at. IsSet (found old.memories.map old.images.map) (found c.set.new.self.map old.images.map) at (Some c.args.handle)) (sym c.in-Memory.is)
    (set_memory old.memories.map old.images.map c.set.new.self.map c.in-Memory.id c.args.handle c.set.ensures.map)

pub returns-in-Image : goal.returns-in-Image
returns-in-Image c =
    let old = c.args.self.now in
    subst (λ at. IsSet (found old.memories.map old.images.map) (found old.memories.map c.set-in-Image.new.self.map) at (Some c.args.handle)) (sym c.in-Image.is)
    (set_image old.memories.map old.images.map c.set-in-Image.new.self.map c.in-Image.id c.args.handle c.set-in-Image.ensures.map)
