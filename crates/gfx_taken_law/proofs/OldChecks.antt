-- A check that asks for no new id never has the fault that an id is taken.
use Rattle.std.proofs.Common.{◌≡◌, ℕ, Bool, true, false, subst, List, [], ◌∷◌, flat_map, Option, Some, None, not}
use Rattle.gfx_types.specs.declared.names.Fault.{Fault}
use Rattle.gfx_types.specs.declared.names.Fault.TheVariants.{IdTaken, SignalState, CommandState, LayoutDiffers}
use Rattle.gfx_model.specs.Views.{View}
use Rattle.gfx_model.specs.Checks.{Check, Turn, broken, first, unless, turns_fault, is_executable, layouts_of, layouts_after, meets, but}
use Rattle.gfx_model.specs.Checks.Check.{must, new, the_queue, the_images, in_turn}
use Rattle.gfx_model.specs.Checks.Turn.{wait, execute, signal}

-- a fault other than that an id is taken
abbrev pub IsOther : Fault → Type 0
IsOther IdTaken = ⊥
IsOther _ = Unit {0}

-- no fault, or another
abbrev pub IsNotTaken : Option Fault → Type 0
IsNotTaken None = Unit {0}
IsNotTaken (Some f) = IsOther f

-- a check that asks for no new id
abbrev pub AsksForNone : Check → Type 0
AsksForNone (must f b) = IsOther f
AsksForNone (new earlier x) = ⊥
AsksForNone (the_queue device queue) = ⊥
AsksForNone (the_images swapchain images) = ⊥
AsksForNone _ = Unit {0}

pub unless_not : (b : Bool) (f : Fault) → IsOther f → IsNotTaken (unless b f)
unless_not true f o = tt
unless_not false f o = o

pub first_not : (x y : Option Fault) → IsNotTaken x → IsNotTaken y → IsNotTaken (first x y)
first_not None y a b = b
first_not (Some f) y a b = a

pub not_taken : (x : Option Fault) → IsNotTaken x → x ≡ Some IdTaken → ⊥
not_taken x none e = subst IsNotTaken e none

turns_not : (v : View) (signalled : ℕ → Bool) (layout : ℕ → ℕ) (ts : List Turn) → IsNotTaken (turns_fault v signalled layout ts)
unfolding turns_fault
turns_not v signalled layout [] = tt
turns_not v signalled layout (wait s ∷ ts) =
    first_not (unless (signalled s) SignalState) _ (unless_not (signalled s) SignalState tt) (turns_not v (but s false signalled) layout ts)
turns_not v signalled layout (execute cb ∷ ts) =
    let asked = flat_map layouts_of (v.buffer cb).commands in
    first_not (unless (is_executable (v.buffer cb).state) CommandState) _ (unless_not (is_executable (v.buffer cb).state) CommandState tt)
    (first_not (unless (meets layout asked) LayoutDiffers) _ (unless_not (meets layout asked) LayoutDiffers tt) (turns_not v signalled (layouts_after layout asked) ts))
turns_not v signalled layout (signal s ∷ ts) =
    first_not (unless (not (signalled s)) SignalState) _ (unless_not (not (signalled s)) SignalState tt) (turns_not v (but s true signalled) layout ts)

pub broken_not : (v : View) (c : Check) → AsksForNone c → IsNotTaken (broken v c)
unfolding broken
broken_not v (must f b) p = unless_not b f p
broken_not v (new earlier x) p = absurd p
broken_not v (the_queue device queue) p = absurd p
broken_not v (the_images swapchain images) p = absurd p
broken_not v (in_turn turns) p = turns_not v v.signalled v.layout turns
broken_not v _ p = unless_not _ _ tt
