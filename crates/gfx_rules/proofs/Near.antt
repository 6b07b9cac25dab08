-- The device of a resource.
use Rattle.std.proofs.Common.{◌≡◌, ℕ, zero, suc, ◌==◌, Bool, true, false, Option, Some, None, if◌then◌else◌, refl, ap, ◌∙◌, arith}
use Rattle.std.proofs.lemmas.Bool.Decides.{nat_tests}
use Rattle.gfx_types.specs.declared.names.Kind.{Kind}
use Rattle.gfx_types.specs.declared.names.Kind.TheVariants as kind
use Rattle.gfx_model.specs.Steps.{Object, kind_of, kind_number}
use Rattle.gfx_types.specs.declared.names.Fault.{Fault}
use Rattle.gfx_model.specs.Questions.{passes}
use Rattle.gfx_model.specs.Checks.{first}
use Rattle.gfx_model.specs.Views.{View, is_live, parent_of, climb, device_of}

-- no other kind has the number of a device
other_number : (k : Kind) → (k ≡ kind.Device → ⊥) → (kind_number kind.Device == kind_number k) ≡ false
other_number kind.Instance other = refl
other_number kind.Surface other = refl
other_number kind.Device other = absurd (other refl)
other_number kind.Queue other = refl
other_number kind.Memory other = refl
other_number kind.Buffer other = refl
other_number kind.Image other = refl
other_number kind.Pool other = refl
other_number kind.CommandBuffer other = refl
other_number kind.Fence other = refl
other_number kind.Semaphore other = refl
other_number kind.Swapchain other = refl

-- what is live as another kind is no device
no_device : (v : View) (k : Kind) (x : ℕ) → (k ≡ kind.Device → ⊥) → is_live v k x ≡ true → is_live v kind.Device x ≡ false
no_device v k x other live = by (v.live x) live
  where
    by : (o : Option Object) → passes (λ o. kind_number (kind_of o.detail) == kind_number k) o ≡ true → passes (λ o. kind_number (kind_of o.detail) == kind_number kind.Device) o ≡ false
    by None none = absurd (cc)
    by (Some o) is = let number = other_number k other in grind (arith, nat_tests, is, number)

-- a device that parents lead to is live
climb_live : (n : ℕ) (v : View) (x : ℕ) → (climb n v x ≡ 0 → ⊥) → is_live v kind.Device (climb n v x) ≡ true
climb_live zero v x not = absurd (not refl)
climb_live (suc n) v x not = by (climb_live n v (parent_of v x)) (is_live v kind.Device x) refl not
  where
    by : ((climb n v (parent_of v x) ≡ 0 → ⊥) → is_live v kind.Device (climb n v (parent_of v x)) ≡ true) → (t : Bool) → is_live v kind.Device x ≡ t
        → ((if t then x else climb n v (parent_of v x)) ≡ 0 → ⊥) → is_live v kind.Device (if t then x else climb n v (parent_of v x)) ≡ true
    by rest true is some = is
    by rest false is some = rest some

-- a child of the device of another object is of that device
pub child_near : (v : View) (k : Kind) (cb x : ℕ) → (k ≡ kind.Device → ⊥) → is_live v k x ≡ true → parent_of v x ≡ device_of v cb → (device_of v cb ≡ 0 → ⊥) → device_of v x ≡ device_of v cb
child_near v k cb x other live parent some =
    let no = no_device v k x other live in
    let yes = climb_live 3 v cb some in
    ap (λ t. if t then x else climb 2 v (parent_of v x)) no ∙ ap (climb 2 v) parent ∙ ap (λ t. if t then device_of v cb else climb 1 v (parent_of v (device_of v cb))) yes

-- numbers that are equal pass the test
pub same_number : (a b : ℕ) → a ≡ b → true ≡ (a == b)
same_number a b is = grind (arith, nat_tests, is)

-- a fault of three checks is that of more
pub still_first : (a b c d : Option Fault) (fault : Fault) → Some fault ≡ first a (first b (first c None)) → Some fault ≡ first a (first b (first c d))
still_first (Some x) b c d fault is = is
still_first None (Some x) c d fault is = is
still_first None None (Some x) d fault is = is
still_first None None None d fault is = absurd (cc)
