-- What clauses see of a seat.
use Rattle.atomic_table.specs.Seated.{TableId}
use Rattle.gfx_seats.specs.declared.hand.Hand.{Hand}
use Rattle.gfx_seats.specs.declared.seat.Seat.{Seat}

module _ {V E W D R : Type 0} {g : _} where
  -- what its thread did and saw
  abbrev pub hand : Seat V E W D R g → Hand E
  hand s = s.token.me.0.hand

  -- the desk at which it is
  abbrev pub desk_of : Seat V E W D R g → TableId
  desk_of s = s.token.table_id
