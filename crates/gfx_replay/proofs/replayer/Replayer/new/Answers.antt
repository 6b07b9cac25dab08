use Rattle.std.proofs.Common.{refl, []}
use Rattle.gfx_tracker.specs.Tracker.{answers}
use Rattle.gfx_replay.specs.Places.{bytes_in}
use Rattle.gfx_replay.proofs.Starting.{stands_nothing}
use Rattle.gfx_replay.proofs.replayer.Replayer.new.Goals as goal

pub invariant_of-result : goal.invariant_of-result
invariant_of-result c = record {
  standing = λ found. ∣ record { history = []; stands = stands_nothing (answers c.new.result) (bytes_in c.new-2.result) c.new.ensures c.new-2.ensures } ∣₁;
}

pub returns : goal.returns
returns c = record { found = refl; stands = stands_nothing (answers c.new.result) (bytes_in c.new-2.result) c.new.ensures c.new-2.ensures }
