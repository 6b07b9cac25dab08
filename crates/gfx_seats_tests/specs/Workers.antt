-- What a worker's seat has drawn.
use Rattle.std.specs.Prelude.{◌≡◌, ℕ, ◌+◌, ◌≤◌, [], length}
use Rattle.gfx_seats.specs.declared.stage.Stage.TheVariants.{Idle}
use Rattle.gfx_seats.specs.declared.hand.Hand.{Hand}
use Rattle.gfx_seats_tests.specs.declared.journal.Entry.{Entry}

-- a seat of a new desk
pub record IsReady (h : Hand Entry) : Type 0 where
  pub stage : h.stage ≡ Idle
  pub kind : h.kind ≡ 1
  pub drawn : h.drawn ≡ []

-- at most n ids were drawn, and nothing else was done
pub record DrewMore (h : Hand Entry) (n : ℕ) (h' : Hand Entry) : Type 0 where
  pub stage : h'.stage ≡ h.stage
  pub kind : h'.kind ≡ h.kind
  pub few : length h'.drawn ≤ length h.drawn + n
