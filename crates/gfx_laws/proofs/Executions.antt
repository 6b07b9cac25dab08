-- Commands are ready to be recorded, and to be executed.
use Rattle.std.proofs.Common.{◌≡◌, ℕ, Bool, true, false, refl, subst, List, [], ◌∷◌, ◌++◌, map, flat_map, None}
use Rattle.std.specs.List.{AllByRecursion}
use Rattle.gfx_model.specs.Events.{Event}
use Rattle.gfx_model.specs.Events.Event.{CreateInstance}
use Rattle.gfx_model.specs.Steps.Step.{executed, changes}
use Rattle.gfx_model.specs.Questions.{State, passes, is_kept}
use Rattle.gfx_model.specs.Views.{View}
use Rattle.gfx_model.specs.Checks.{Turn, unless, turns_fault, is_executable, is_recording, meets, layouts_after, layouts_of, but}
use Rattle.gfx_model.specs.Checks.Check.{fits}
use Rattle.gfx_model.specs.Checks.Turn.{wait, execute, signal}
use Rattle.gfx_types.specs.declared.names.Fault.TheVariants.{CommandState, LayoutDiffers}
use Rattle.gfx_model.specs.Effects.{steps_of_turn, changes_of_buffer, changes_of_command}
use Rattle.gfx_model.proofs.Covered.{first_none, unless_none}
use Rattle.gfx_laws.specs.Lawful.{base, LawfulObjects, LawfulBuffers, has_signal, command_checks, Passes, CommandPasses, IsCommandOf}
use Rattle.gfx_laws.proofs.Ready.{ReadyToChange}
use Rattle.gfx_model.proofs.Lists.{all_append}
use Rattle.gfx_laws.proofs.Lists.{all_before, all_of, all_into_map}
use Rattle.gfx_laws.proofs.LastingChecks.{SameAt, command_along}
use Rattle.gfx_laws.proofs.Commands.{command_ready}
use Rattle.gfx_laws.proofs.ReadyLists.{IsCalm}

-- ---- commands

pub commands_ready : (v : View) (c : Event) (n : ℕ) → AllByRecursion (Passes v) (command_checks c ++ fits n ∷ []) → CommandPasses (base v) c
commands_ready v c n a =
    command_along v (base v) c refl (all_of (SameAt v (base v)) (λ x. record { live = refl; device = refl; usable = λ u. u }) _)
    (all_before (Passes v) (command_checks c) (fits n ∷ []) a)

pub is_recording_state : (s : State) → is_recording s ≡ true → s ≡ State.recording
is_recording_state State.recording e = refl
is_recording_state State.initial e = absurd (cc)
is_recording_state State.executable e = absurd (cc)
is_recording_state State.invalid e = absurd (cc)

kept_executable : (s : State) → is_executable s ≡ true → is_kept s ≡ true
kept_executable State.executable e = refl
kept_executable State.recording e = absurd (cc)
kept_executable State.initial e = absurd (cc)
kept_executable State.invalid e = absurd (cc)

-- ---- executions

-- what a command changes is read from objects and bindings alone
changes_base : (v : View) (c : Event) → changes_of_command (base v) c ≡ changes_of_command v c
unfolding changes_of_command
changes_base v (CreateInstance instance api) = refl
changes_base v _ = refl

commands_change : (v : View) → LawfulObjects (base v) → (cb : ℕ) (cs : List Event) → AllByRecursion (IsCommandOf (base v) cb) cs → AllByRecursion (ReadyToChange (base v)) (flat_map (changes_of_command v) cs)
commands_change v h cb [] a = tt
commands_change v h cb (c ∷ cs) a =
    all_append (ReadyToChange (base v)) (changes_of_command v c) (flat_map (changes_of_command v) cs)
    (subst (AllByRecursion (ReadyToChange (base v))) (changes_base v c) (command_ready (base v) h c (a.0).1))
    (commands_change v h cb cs a.1)

-- what a turn signals has a signal
abbrev pub SignalsWell : View → Turn → Type 0
SignalsWell v (signal x) = passes (λ o. has_signal o.detail) (v.live x) ≡ true
SignalsWell v _ = Unit {0}

pub turns_ready : (v : View) → LawfulObjects (base v) → LawfulBuffers (base v) v.buffer → (s : ℕ → Bool) (f : ℕ → ℕ) (ts : List Turn) → AllByRecursion (SignalsWell v) ts → turns_fault v s f ts ≡ None →
    AllByRecursion (IsCalm (base v)) (flat_map (steps_of_turn v) ts)
unfolding turns_fault
turns_ready v h k s f [] w e = tt
turns_ready v h k s f (wait x ∷ ts) w e = (tt, turns_ready v h k (but x false s) f ts w.1 (first_none _ _ e).1)
turns_ready v h k s f (signal x ∷ ts) w e = (w.0, turns_ready v h k (but x true s) f ts w.1 (first_none _ _ e).1)
turns_ready v h k s f (execute cb ∷ ts) w e =
    let asked = flat_map layouts_of (v.buffer cb).commands in
    let both = first_none (unless (is_executable (v.buffer cb).state) CommandState) _ e in
    let rest = first_none (unless (meets f asked) LayoutDiffers) _ both.1 in
    all_append (IsCalm (base v)) (map changes (changes_of_buffer v cb) ++ executed cb ∷ []) (flat_map (steps_of_turn v) ts)
    (all_append (IsCalm (base v)) (map changes (changes_of_buffer v cb)) (executed cb ∷ [])
    (all_into_map (IsCalm (base v)) changes (changes_of_buffer v cb)
    (commands_change v h cb (v.buffer cb).commands (k.commands cb (kept_executable _ (unless_none _ _ both.0)))))
    (tt, tt))
    (turns_ready v h k s (layouts_after f asked) ts w.1 rest.1)
