-- The commands of buffers that may be executed, and the windows of their resources.
use Rattle.std.proofs.Common.{◌≡◌, ℕ, true, refl, sym, ap, ◌∙◌, subst, [], is_some}
use Rattle.std.specs.List.{AllByRecursion, AllByRecursion-prop}
use Rattle.std.proofs.Props.{props}
use Rattle.std.proofs.Math.Logic.{∥∥₁_elim}
use Rattle.std.proofs.lemmas.Bool.{both_ways}
use Rattle.gfx_types.specs.declared.names.Fault.{Fault}
use Rattle.gfx_types.specs.declared.names.Kind.TheVariants as kind
use Rattle.gfx_model.specs.Events.{Event}
use Rattle.gfx_model.specs.Views.{View, is_live}
use Rattle.gfx_model.specs.Questions.{State, is_kept}
use Rattle.gfx_model.specs.Checks.{Check, is_executable}
use Rattle.gfx_model.proofs.Lists.{all_along}
use Rattle.gfx_laws.specs.Lawful.{base, IsLawful, LawfulObjects, IsCommandOf, Passes, CommandPasses}
use Rattle.gfx_laws.proofs.KeptCommands.{command_of_buffer}
use Rattle.gfx_laws.proofs.Lists.{all_of}
use Rattle.gfx_laws.proofs.LastingChecks.{SameAt, command_along}
use Rattle.gfx_laws.proofs.MoreObjects.{live_of_kind}
use Rattle.gfx_commands.specs.Runnable.{IsRunnable}
use Rattle.gfx_tracker.specs.Submitted.{IsExecutable}

executable_kept : (s : State) → is_executable s ≡ true → is_kept s ≡ true
executable_kept State.executable e = refl
executable_kept State.recording e = absurd cc
executable_kept State.initial e = absurd cc
executable_kept State.invalid e = absurd cc

-- a command of a live buffer, where objects and bindings are those of w
runs : (v w : View) → base v ≡ base w → LawfulObjects (base v) → (cb : ℕ) → is_live v kind.CommandBuffer cb ≡ true → (c : Event) → IsCommandOf (base v) cb c → IsRunnable w c
runs v w same h cb there c own =
    let o = live_of_kind v _ cb there in
    record {
      command = command_of_buffer c (λ z. both_ways (is_some (v.live cb)) (ap (λ x. is_some (v.live x)) (sym own.0 ∙ z) ∙ ap is_some h.zero) (ap is_some o.1));
      passes = command_along (base w) w c refl (all_of (SameAt (base w) w) (λ x. record { live = refl; device = refl; usable = λ u. u }) _) (subst (λ u. CommandPasses u c) same own.1);
    }

-- the commands of a buffer that may be executed, where objects and bindings are those of w
pub runnable : (v w : View) → base v ≡ base w → IsLawful v [] → (cb : ℕ) → IsExecutable v cb → AllByRecursion (IsRunnable w) (v.buffer cb).commands
runnable v w same h cb e =
    let kept = executable_kept (v.buffer cb).state e in
    all_along (IsCommandOf (base v) cb) (IsRunnable w) (runs v w same h.objects cb ((h.buffers).owner cb kept)) (v.buffer cb).commands ((h.buffers).commands cb kept)

fault_set : IsSet Fault
fault_set = hlevel props

passes_prop : (v : View) (c : Check) → IsProp (Passes v c)
passes_prop v c = hlevel (props, fault_set)

runnable_prop : (v : View) (c : Event) → IsProp (IsRunnable v c)
runnable_prop v c = hlevel (props, passes_prop v)

pub all_runnable : (v w : View) → base v ≡ base w → ∥ IsLawful v [] ∥₁ → (cb : ℕ) → IsExecutable v cb → AllByRecursion (IsRunnable w) (v.buffer cb).commands
all_runnable v w same lawful cb e = ∥∥₁_elim lawful (AllByRecursion-prop (IsRunnable w) (runnable_prop w) (v.buffer cb).commands) (λ h. runnable v w same h cb e)
