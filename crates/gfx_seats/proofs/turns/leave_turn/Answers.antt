use Rattle.std.proofs.Common.{rules}
use Rattle.gfx_seats.proofs.Counts.{leaves}
use Rattle.gfx_seats.proofs.turns.leave_turn.Goals as goal

pub fetch_add-requires : goal.fetch_add-requires
fetch_add-requires g c = let v = c.requires.value in (search rules, search rules, leaves g.V.Grows.entries g.V.Grows.thread_of g.V.Grows.ids_of g.V.Grows.kind _ _ _ _ _ v.0 c.requires.turn v.1 v.2 v.3)
