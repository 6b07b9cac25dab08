use Rattle.std.proofs.Common.{◌≡◌, ◌-◌, map, All}
use Rattle.gfx_seats.specs.Hand.{fresh_from}
use Rattle.gfx_seats.specs.Seat.{hand, desk_of}
use Rattle.gfx_seats.proofs.SeatLists.{dealer}
use Rattle.gfx_seats.proofs.opening.deal.Given as goal

abbrev pub invariant-loop-thread : goal.invariant-loop-thread
invariant-loop-thread g l = let kind = g.V.Grows.kind l.fn.board.key.value.value in
    (l.token.table_id ≡ l.fn.token.table_id)
    × (l.token.me ≡ dealer kind (l.fn.seats - 1) l.thread (l.fn.seats - 1 - l.thread))
    × (map (λ s. hand s) l.all.items ≡ fresh_from kind 0 l.thread)
    × All (λ s. desk_of s ≡ l.fn.board.table_id) l.all.items
