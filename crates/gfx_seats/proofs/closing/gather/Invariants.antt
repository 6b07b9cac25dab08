use Rattle.std.proofs.Common.{◌≡◌, ◌∷◌, ◌++◌, map, All, false}
use Rattle.gfx_seats.specs.declared.stage.Stage.TheVariants.{Idle}
use Rattle.gfx_seats.specs.Seat.{hand, desk_of}
use Rattle.gfx_seats.proofs.closing.gather.Given as goal

abbrev pub invariant-loop-seat : goal.invariant-loop-seat
invariant-loop-seat g l =
    (l.token.table_id ≡ l.fn.board.table_id)
    × (map (λ s. hand s) l.seats.items ++ (l.token.me.0.hand ∷ l.token.me.0.others) ≡ map (λ s. hand s) l.fn.seats.items)
    × All (λ h. h.stage ≡ Idle) (l.token.me.0.hand ∷ l.token.me.0.others)
    × All (λ s. desk_of s ≡ l.fn.board.table_id) l.seats.items
    × All (λ s. s.has_turn ≡ false) l.seats.items

abbrev pub decreases-loop-seat : goal.decreases-loop-seat
decreases-loop-seat g l = goal.left-loop-seat g l
