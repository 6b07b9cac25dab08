use Rattle.std.proofs.Common.{◌≡◌, ◌⊎◌, inl, inr, ℕ, true, List, refl, sym, subst}
use Rattle.gfx_script_model.specs.Scripts.{Part}
use Rattle.gfx_script.specs.Kept.{is_version}
use Rattle.gfx_script.specs.Line.{phases_of}
use Rattle.gfx_script_law.specs.Playable.{IsPlayable}
use Rattle.gfx_script_law.proofs.Playing.{parsed_is_playable}
use Rattle.gfx_gather.proofs.Playing.{shown_is_playable}
use Rattle.gfx_recorder_tests.proofs.recording.script_of.Goals as goal

version-is : (m : ℕ) → (m ≡ 1) ⊎ (m ≡ 2) → is_version m ≡ true
version-is m (inl one) = subst (λ k. is_version k ≡ true) (sym one) refl
version-is m (inr two) = subst (λ k. is_version k ≡ true) (sym two) refl

pub shown_script-requires : goal.shown_script-requires
shown_script-requires c =
    version-is c.in-Ok.script.minor (parsed_is_playable c.args.text.now c.in-Ok.script.minor (phases_of c.in-Ok.script.phases) c.in-Ok.ensures.0).version

pub returns-in-Ok-shown_script : goal.returns-in-Ok-shown_script
returns-in-Ok-shown_script c =
    let m = c.in-Ok.script.minor in let phases = phases_of c.in-Ok.script.phases in let shown = c.in-Ok-shown_script.ensures in
    subst (λ (z : ℕ × List (List Part)). IsPlayable z.0 z.1) (λ i. (sym shown.minor i, sym shown.phases i))
    (shown_is_playable c.args.gathers m phases (parsed_is_playable c.args.text.now m phases c.in-Ok.ensures.0))
