-- What a range needs and asks for, in the forms that code can compute.
use Rattle.std.specs.Prelude.{◌≡◌, ℕ, Bool, true, if◌then◌else◌, List, [], ◌∷◌, ◌++◌, flat_map, Some, None, is_some, IsTrue, Contains}
use Rattle.std.specs.List.{list_any, range_with_len}
use Rattle.std.specs.Option.{option_map_or}
use Rattle.gfx_types.specs.declared.op.Place.{Place}
use Rattle.gfx_types.specs.declared.op.Place.TheVariants as place
use Rattle.gfx_model.specs.Events.{Event}
use Rattle.gfx_model.specs.Steps.{resources_of}
use Rattle.gfx_model.specs.Questions.{is_kept}
use Rattle.gfx_model.specs.Views.{View, is_usable, parent_of, fetched}
use Rattle.gfx_model.specs.History.{view}
use Rattle.gfx_feature_model.specs.Asked.{asked_by}
use Rattle.gfx_feature_model.specs.Lean.{Needed, named_in, surface_of, IsAsked, Keep, KeepsNeeded}

-- ---- needed ids

-- Marks that hold what the range names, and with each marked id what it depends on.
pub record AreMarked (v : View) (range : List Event) (id : ℕ → Bool) : Type 0 where
  pub named : (x : ℕ) → IsTrue (is_some (v.live x)) → Contains (named_in range) x → IsTrue (id x)
  pub parent : (x : ℕ) → IsTrue (is_some (v.live (parent_of v x))) → IsTrue (id x) → IsTrue (id (parent_of v x))
  pub memory : (x m : ℕ) → IsTrue (is_usable v x) → option_map_or (λ b. Some b.memory) (v.bound x) None ≡ Some m → IsTrue (id x) → IsTrue (id m)
  pub surface : (x s : ℕ) → option_map_or (λ o. surface_of o.detail) (v.live x) None ≡ Some s → IsTrue (id x) → IsTrue (id s)
  pub image : (x i : ℕ) → Contains (fetched v x) i → IsTrue (id x) → IsTrue (id i)
  pub resource : (cb r : ℕ) → IsTrue (is_kept (v.buffer cb).state) → Contains (flat_map resources_of (v.buffer cb).commands) r → IsTrue (id cb) → IsTrue (id r)

-- marks that are closed under the rules hold all that is needed
abbrev pub NeededIsMarked : Type 0
NeededIsMarked = (v : View) (range : List Event) (id : ℕ → Bool) → AreMarked v range id → (x : ℕ) → Needed v range x → IsTrue (id x)

-- what x depends on: its parent, the memory under it, its surface, its fetched images, and what its commands name
abbrev pub stands_on : View → ℕ → List ℕ
stands_on v x =
    (if is_some (v.live (parent_of v x)) then parent_of v x ∷ [] else [])
    ++ (if is_usable v x then option_map_or (λ b. b.memory ∷ []) (v.bound x) [] else [])
    ++ option_map_or (λ o. option_map_or (λ s. s ∷ []) (surface_of o.detail) []) (v.live x) []
    ++ fetched v x
    ++ (if is_kept (v.buffer x).state then flat_map resources_of (v.buffer x).commands else [])

-- What a list of marks that grows needs: what a needed id depends on is needed, and marks of which each depends on marked
-- ids alone hold all that is needed.
pub record ByList (v : View) (range : List Event) : Type 0 where
  pub more : (x y : ℕ) → Needed v range x → Contains (stands_on v x) y → Needed v range y
  pub all : (id : ℕ → Bool) → ((x : ℕ) → IsTrue (is_some (v.live x)) → Contains (named_in range) x → IsTrue (id x)) →
      ((x y : ℕ) → IsTrue (id x) → Contains (stands_on v x) y → IsTrue (id y)) → AreMarked v range id

-- marks that grow by what a marked id depends on are just what is needed
abbrev pub NeededByList : Type 0
NeededByList = (v : View) (range : List Event) → ByList v range

-- ---- asked bytes

-- these are the asked bytes
abbrev pub AskedByWalk : Type 0
AskedByWalk = (h range : List Event) (at : Place) (j : ℕ) → (asked_by h range at j ≡ true → IsAsked h range at j) × (IsAsked h range at j → asked_by h range at j ≡ true)

-- ---- what is kept

-- the marked ids, and the fills in which the walk finds an asked byte
abbrev pub computed_keep : (ℕ → Bool) → List Event → List Event → Keep
computed_keep id h range = record { id = id; fill = λ m offset n. list_any (asked_by h range (place.Memory m)) (range_with_len offset n) }

-- what code computes is just what is needed and asked for, where each mark has its reason
abbrev pub ComputedIsNeeded : Type 0
ComputedIsNeeded = (h range : List Event) (id : ℕ → Bool) → AreMarked (view h) range id → ((x : ℕ) → IsTrue (id x) → Needed (view h) range x) →
    KeepsNeeded h range (computed_keep id h range)
