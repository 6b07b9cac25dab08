-- What clauses see of a desk, and what closing it gives.
use Rattle.std.specs.Prelude.{◌≡◌, ◌≢◌, ◌≤◌, ℕ, List, [], length, All}
use mathlib.Core.List.{IsPrefix}
use Rattle.atomic_table.specs.Seated.{TableId}
use Rattle.gfx_seats.specs.declared.hand.Hand.{Hand}
use Rattle.gfx_seats.specs.declared.desk.Desk.{Desk}
use Rattle.gfx_seats.specs.Entries.{total, entries_of}
use Rattle.gfx_seats.specs.Hand.{drawn_times}
use Rattle.gfx_seats.specs.Rule.{Once}

module _ {V E W D R : Type 0} where
  -- which desk it is
  abbrev pub desk_id : Desk V E W D R → TableId
  desk_id d = d.table.shared.table_id

  -- how many seats it was made with
  abbrev pub seats_of : Desk V E W D R → ℕ
  seats_of d = d.table.shared.key.seats

module _ {V E : Type 0} (entries : V → List E) (thread_of : E → ℕ) (kind_of : V → ℕ) where
  -- the value begins with what each thread has seen, is as long as each knew, has of each thread what it made, and nothing
  -- of other threads;
  -- the ids that were drawn are those from 1 on and below some number, each drawn once
  pub record Closes (hands : List (Hand E)) (value : V) : Type 0 where
    pub seen : All (λ h. IsPrefix h.seen (entries value)) hands
    pub known : All (λ h. h.known ≤ length (entries value)) hands
    pub mine : All (λ h. entries_of thread_of h.thread (entries value) ≡ h.mine) hands
    pub kind : All (λ h. kind_of value ≡ h.kind) hands
    pub foreign : (t : ℕ) → All (λ h. h.thread ≢ t) hands → entries_of thread_of t (entries value) ≡ []
    pub next : ℕ
    pub drawn : (x : ℕ) → Once 1 next x (total (drawn_times x) hands)
