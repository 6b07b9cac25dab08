use Rattle.std.proofs.Common.{◌≡◌, ℕ, ◌%◌, ◌^◌}
use Rattle.gfx_seats.specs.declared.stage.Stage.TheVariants.{Waits}
use Rattle.gfx_seats.specs.Hand.{with_stage}
use Rattle.gfx_seats.specs.Steps.{with_me}
use Rattle.gfx_seats.proofs.turns.wait_for_turn.Given as goal

abbrev pub invariant-loop : goal.invariant-loop
invariant-loop g l = (l.token.table_id ≡ l.fn.token.table_id) × ((k : ℕ) × (l.ticket ≡ k % 2 ^ 64) × (l.token.me ≡ with_me l.fn.token.me (with_stage l.fn.token.me.0.hand (Waits k))))
