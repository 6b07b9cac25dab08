use Rattle.std.proofs.Common.{◌≡◌, ◌⊎◌, inl, inr, ℕ, true, List, refl, sym, subst}
use Rattle.gfx_script_model.specs.Scripts.{Part}
use Rattle.gfx_script.specs.Kept.{is_version}
use Rattle.gfx_script.specs.Line.{phases_of}
use Rattle.gfx_script_law.specs.Playable.{IsPlayable}
use Rattle.gfx_gather.proofs.Playing.{shown_is_playable}
use Rattle.gfx_recording.proofs.script.run_as.Goals as goal

version-is : (m : ℕ) → (m ≡ 1) ⊎ (m ≡ 2) → is_version m ≡ true
version-is m (inl one) = subst (λ k. is_version k ≡ true) (sym one) refl
version-is m (inr two) = subst (λ k. is_version k ≡ true) (sym two) refl

pub shown_script-requires : goal.shown_script-requires
shown_script-requires c = version-is c.args.script.minor c.requires.version

pub returns-in-Ok-clause-playable : goal.returns-in-Ok-clause-playable
returns-in-Ok-clause-playable c =
    let m = c.args.script.minor in let phases = phases_of c.args.script.phases in
    subst (λ (z : ℕ × List (List Part)). IsPlayable z.0 z.1) (λ i. (sym c.in-Ok.ensures.minor i, sym c.in-Ok.ensures.phases i)) (shown_is_playable c.args.gathers m phases c.requires)
