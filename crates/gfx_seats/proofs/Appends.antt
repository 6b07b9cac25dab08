-- What the holder of the turn learns of its entries.
use Rattle.std.proofs.Common.{◌≡◌, ℕ, ◌+◌, ◌-◌, List, [], ◌∷◌, ◌++◌, length, sym, ap, ◌∙◌, arith, length-append, Option, Some}
use Rattle.atomic_table.specs.Table.{Me, rest}
use Rattle.gfx_seats.specs.declared.hand.Hand.{Hand}
use Rattle.gfx_seats.specs.declared.view.View.{View}
use Rattle.gfx_seats.specs.Entries.{entries_of, IsEntryOf, Adds}
use Rattle.gfx_seats.specs.Hand.{grown_hand, HasAllOwn, Appended}
use Rattle.gfx_seats.specs.Steps.{taken}
use Rattle.gfx_seats.proofs.Totals.{each-from_All}
use Rattle.gfx_seats.proofs.Entries.{entries_of-append, entries_of-all}

module _ {E : Type 0} (thread_of : E → ℕ) (ids_of : E → List ℕ) where
  pub appended : (h h' : Hand E) (es : List E) (ids : List ℕ) → h' ≡ grown_hand thread_of h es → HasAllOwn thread_of h → Adds thread_of ids_of h.seen h.thread ids es → Appended thread_of ids_of h ids h'
  appended h h' es ids is own adds = let more = adds.0 in let t = h.thread in let new = each-from_All (IsEntryOf thread_of ids_of t ids) more adds.2 in
      let made : entries_of thread_of t es ≡ h.mine ++ more =
      ap (entries_of thread_of t) adds.1 ∙ (entries_of-append thread_of t h.seen more ∙ (λ i. own i ++ entries_of-all thread_of t more (λ j e q. (new j e q).0) i)) in
      record { more = more; new = adds.2; hand = is ∙ (λ i. record h { seen = adds.1 i; known = length (adds.1 i); mine = made i }) }

  pub added-length : (old : List E) (t : ℕ) (ids : List ℕ) (new : List E) → Adds thread_of ids_of old t ids new → length old + (length new - length old) ≡ length new
  added-length old t ids new adds = let e = ap length adds.1 in let l = length-append old adds.0 in omega arith

pub in_slot : {V : Type 0} (v w : V) (x : Option V) (l m : List (ℕ × Option V)) → l ≡ (0, Some v) ∷ [] → l ≡ (0, x) ∷ m → x ≡ Some w → v ≡ w
in_slot {V} v w x l m p q r = let e : Some v ≡ Some w = sym (ap (λ (z : List (ℕ × Option V)). taken z) p) ∙ (ap (λ (z : List (ℕ × Option V)). taken z) q ∙ r) in cc

module _ {V E : Type 0} where
  -- two exchanges on the slot in hand
  pub exchanged_twice : (me a b : Me (Option V) (View E)) (v : V) (x y : Option V) → me.1 ≡ (0, Some v) ∷ [] → a ≡ (me.0, (0, x) ∷ rest me.1) → b ≡ (a.0, (0, y) ∷ rest a.1) → b ≡ (me.0, (0, y) ∷ [])
  exchanged_twice me a b v x y p q r = r ∙ (ap (λ (z : Me (Option V) (View E)). let w : Me (Option V) (View E) = (z.0, (0, y) ∷ rest z.1) in w) q ∙ ap (λ (l : List (ℕ × Option V)). let w : Me (Option V) (View E) = (me.0, (0, y) ∷ rest l) in w) p)
