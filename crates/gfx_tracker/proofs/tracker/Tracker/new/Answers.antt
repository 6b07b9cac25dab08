use Rattle.std.proofs.Common.{sym, subst, []}
use Rattle.gfx_laws.specs.Lawful.{IsLawful}
use Rattle.gfx_tracker.specs.Tracker.{answers}
use Rattle.gfx_tracker.proofs.LawfulEvents.{lawful_start}
use Rattle.gfx_tracker.proofs.tracker.Tracker.new.Goals as goal

pub invariant_of-result : goal.invariant_of-result
invariant_of-result c = record { lawful = subst (λ v. ∥ IsLawful v [] ∥₁) (sym c.new.ensures) (∣ lawful_start ∣₁) }

pub returns : goal.returns
unfolding answers
returns c = c.new.ensures
