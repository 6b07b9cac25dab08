-- Whether a device has its queue, told by whether the id was used.
use Rattle.std.proofs.Common.{◌≡◌, ℕ, ◌==◌, Bool, true, false, not, ◌&&◌, List, [], ◌∷◌, Option, Some, None, is_some, refl, subst, arith, cond}
use Rattle.std.specs.Prelude.{find}
use Rattle.std.proofs.Math.Logic.{∥∥₁_elim}
use Rattle.std.proofs.Props.{props}
use Rattle.std.proofs.lemmas.Bool.{and_parts}
use Rattle.std.proofs.lemmas.Bool.Decides.{nat_tests}
use Rattle.gfx_model.specs.Events.Event.{GetDeviceQueue}
use Rattle.gfx_model.specs.Spelling.{id_of}
use Rattle.gfx_model.specs.Steps.{Object}
use Rattle.gfx_model.specs.Questions.{passes}
use Rattle.gfx_model.specs.Views.{View, is_one, is_queue, queue_of}
use Rattle.gfx_model.specs.Checks.{broken, new_fault, queue_fault, is_among}
use Rattle.gfx_model.specs.Checks.Check.{the_queue}
use Rattle.gfx_model.specs.Table.{place_of, row_of, checks_of}
use Rattle.gfx_model.proofs.Covered.{unless_none, first_none}
use Rattle.gfx_laws.specs.Lawful.{IsLawful, Passes}
use Rattle.gfx_laws.proofs.NewObjects.{all_pass}
use Rattle.gfx_tracker.specs.Taking.{IsNext}

-- what is found passes the test
pub find_passes : {X : Type 0} (p : X → Bool) (xs : List X) (x : X) → find p xs ≡ Some x → p x ≡ true
find_passes p [] x e = absurd cc
find_passes p (y ∷ ys) x e = by (p y) refl e (find_passes p ys x)
  where
    by : (t : Bool) → p y ≡ t → cond t (Some y) (find p ys) ≡ Some x → (find p ys ≡ Some x → p x ≡ true) → p x ≡ true
    by true is e rest = subst (λ z. p z ≡ true) (let same : y ≡ x = cc in same) is
    by false is e rest = rest e

-- an id that is new was not used
pub new_unused : (v : View) (earlier : List ℕ) (x : ℕ) → new_fault v earlier x ≡ None → v.used x ≡ false
new_unused v earlier x e = by (v.used x) (and_parts (not (v.used x)) (not (is_among x earlier)) (unless_none _ _ (first_none _ _ e).1)).0
  where
    by : (t : Bool) → not t ≡ true → t ≡ false
    by true e = absurd cc
    by false e = refl

-- what passes a test as a live object was used
pub live_used : (v : View) → IsLawful v [] → (test : Object → Bool) (x : ℕ) → is_one v test x ≡ true → v.used x ≡ true
live_used v h test x e = by (v.live x) refl e
  where
    by : (o : Option Object) → v.live x ≡ o → passes test o ≡ true → v.used x ≡ true
    by None is e = absurd cc
    by (Some o) is e = (h.objects).used x o is

queue_passes : (v : View) (device queue : ℕ) → IsNext v (GetDeviceQueue device queue) → Passes v (the_queue device queue)
unfolding place_of row_of id_of
queue_passes v device queue next = (all_pass v (checks_of (GetDeviceQueue device queue)) next.passes).1.0

pub has_queue : (v : View) (device queue : ℕ) → IsNext v (GetDeviceQueue device queue) → v.used queue ≡ true → is_some (queue_of v device) ≡ true
unfolding broken
has_queue v device queue next used = by (queue_of v device) (queue_passes v device queue next)
  where
    by : (q : Option ℕ) → queue_fault v queue q ≡ None → is_some q ≡ true
    by None e = let unused = new_unused v [] queue (first_none _ _ e).0 in absurd (cc (used, unused))
    by (Some q) e = refl

has_none : (v : View) (device queue : ℕ) → Passes v (the_queue device queue) → v.used queue ≡ false → IsLawful v [] → is_some (queue_of v device) ≡ false
unfolding broken
has_none v device queue pass unused h = by (queue_of v device) refl pass
  where
    by : (q : Option ℕ) → queue_of v device ≡ q → queue_fault v queue q ≡ None → is_some q ≡ false
    by None is e = refl
    by (Some q) is e =
        let test = unless_none _ _ e in
        let same : q ≡ queue = grind (arith, nat_tests, test) in
        let used = live_used v h (λ o. o.parent == device && is_queue o.detail) q (find_passes _ v.ids q is) in
        absurd (cc (used, unused, same))

pub has_no_queue : (v : View) (device queue : ℕ) → IsNext v (GetDeviceQueue device queue) → v.used queue ≡ false → is_some (queue_of v device) ≡ false
has_no_queue v device queue next unused = ∥∥₁_elim next.lawful (hlevel props) (has_none v device queue (queue_passes v device queue next) unused)
