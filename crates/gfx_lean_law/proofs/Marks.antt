-- Marks that grow by what a marked id depends on.
use Rattle.std.proofs.Common.{◌≡◌, ℕ, Bool, true, false, refl, sym, ◌∙◌, ap, subst, List, [], ◌∷◌, ◌++◌, flat_map, Option, Some, None, if◌then◌else◌, is_some, ◌⊎◌, inl, inr}
use Rattle.std.specs.Prelude.{Contains}
use Rattle.std.specs.Option.{option_map_or}
use Rattle.gfx_model.specs.Events.{Event}
use Rattle.gfx_model.specs.Steps.{Object, resources_of}
use Rattle.gfx_model.specs.Questions.{Binding, is_kept}
use Rattle.gfx_model.specs.Views.{View, is_usable, parent_of, fetched}
use Rattle.gfx_feature_model.specs.Lean.{Needed, surface_of}
use Rattle.gfx_feature_model.specs.Lean.Needed.{as_parent, as_memory, as_surface, as_image, as_resource}
use Rattle.gfx_lean_law.specs.Computed.{stands_on, NeededByList}
use Rattle.gfx_lean_law.proofs.Contained.{contains_here, contains_before, contains_behind, contains_split, contains_one, contains_none}

-- why x depends on y
pub data StandsBy (v : View) (x y : ℕ) : Type 0 where
  by_parent : is_some (v.live (parent_of v x)) ≡ true → parent_of v x ≡ y → StandsBy v x y
  by_memory : (b : Binding) → is_usable v x ≡ true → v.bound x ≡ Some b → b.memory ≡ y → StandsBy v x y
  by_surface : option_map_or (λ o. surface_of o.detail) (v.live x) None ≡ Some y → StandsBy v x y
  by_image : Contains (fetched v x) y → StandsBy v x y
  by_resource : is_kept (v.buffer x).state ≡ true → Contains (flat_map resources_of (v.buffer x).commands) y → StandsBy v x y

module _ (v : View) (x : ℕ) where
  abbrev parents : List ℕ
  parents = if is_some (v.live (parent_of v x)) then parent_of v x ∷ [] else []

  abbrev memories : List ℕ
  memories = if is_usable v x then option_map_or (λ (b : Binding). b.memory ∷ []) (v.bound x) [] else []

  abbrev surfaces : List ℕ
  surfaces = option_map_or (λ (o : Object). option_map_or (λ s. s ∷ []) (surface_of o.detail) []) (v.live x) []

  abbrev named : List ℕ
  named = if is_kept (v.buffer x).state then flat_map resources_of (v.buffer x).commands else []

  -- ---- each in the list has its reason

  of_parents : (y : ℕ) (b : Bool) → is_some (v.live (parent_of v x)) ≡ b → Contains (if b then parent_of v x ∷ [] else []) y → StandsBy v x y
  of_parents y true e c = StandsBy.by_parent e (contains_one (parent_of v x) y c)
  of_parents y false e c = absurd (contains_none y c)

  of_memories : (y : ℕ) (b : Bool) (o : Option Binding) → is_usable v x ≡ b → v.bound x ≡ o → Contains (if b then option_map_or (λ (b : Binding). b.memory ∷ []) o [] else []) y → StandsBy v x y
  of_memories y true (Some b) u e c = StandsBy.by_memory b u e (contains_one b.memory y c)
  of_memories y true None u e c = absurd (contains_none y c)
  of_memories y false o u e c = absurd (contains_none y c)

  -- both forms of the surface
  surfaces_are : (l : Option Object) → option_map_or (λ (o : Object). option_map_or (λ s. s ∷ []) (surface_of o.detail) []) l []
      ≡ option_map_or (λ s. s ∷ []) (option_map_or (λ (o : Object). surface_of o.detail) l None) []
  surfaces_are None = refl
  surfaces_are (Some o) = refl

  of_surfaces : (y : ℕ) (o : Option ℕ) → option_map_or (λ (o : Object). surface_of o.detail) (v.live x) None ≡ o → Contains (option_map_or (λ s. s ∷ []) o []) y → StandsBy v x y
  of_surfaces y (Some s) e c = StandsBy.by_surface (e ∙ ap Some (contains_one s y c))
  of_surfaces y None e c = absurd (contains_none y c)

  of_named : (y : ℕ) (b : Bool) → is_kept (v.buffer x).state ≡ b → Contains (if b then flat_map resources_of (v.buffer x).commands else []) y → StandsBy v x y
  of_named y true e c = StandsBy.by_resource e c
  of_named y false e c = absurd (contains_none y c)

  pub stands_by : (y : ℕ) → Contains (stands_on v x) y → StandsBy v x y
  stands_by y c = last (contains_split (parents ++ memories ++ surfaces ++ fetched v x) named y c)
    where
      first : Contains parents y ⊎ Contains memories y → StandsBy v x y
      first (inl c) = of_parents y (is_some (v.live (parent_of v x))) refl c
      first (inr c) = of_memories y (is_usable v x) (v.bound x) refl refl c

      second : Contains (parents ++ memories) y ⊎ Contains surfaces y → StandsBy v x y
      second (inl c) = first (contains_split parents memories y c)
      second (inr c) = of_surfaces y (option_map_or (λ (o : Object). surface_of o.detail) (v.live x) None) refl (subst (λ l. Contains l y) (surfaces_are (v.live x)) c)

      third : Contains (parents ++ memories ++ surfaces) y ⊎ Contains (fetched v x) y → StandsBy v x y
      third (inl c) = second (contains_split (parents ++ memories) surfaces y c)
      third (inr c) = StandsBy.by_image c

      last : Contains (parents ++ memories ++ surfaces ++ fetched v x) y ⊎ Contains named y → StandsBy v x y
      last (inl c) = third (contains_split (parents ++ memories ++ surfaces) (fetched v x) y c)
      last (inr c) = of_named y (is_kept (v.buffer x).state) refl c

  -- ---- what has a reason is in the list

  pub by_stands : (y : ℕ) → StandsBy v x y → Contains (stands_on v x) y
  by_stands y (StandsBy.by_parent e is) =
      contains_before _ named _ (contains_before _ (fetched v x) _ (contains_before _ surfaces _ (contains_before parents memories _
      (subst (λ b. Contains (if b then parent_of v x ∷ [] else []) y) (sym e) (subst (Contains (parent_of v x ∷ [])) is (contains_here (parent_of v x) []))))))
  by_stands y (StandsBy.by_memory b u at is) =
      contains_before _ named _ (contains_before _ (fetched v x) _ (contains_before _ surfaces _ (contains_behind parents memories _
      (subst (λ b. Contains (if b then option_map_or (λ (b : Binding). b.memory ∷ []) (v.bound x) [] else []) y) (sym u)
      (subst (λ o. Contains (option_map_or (λ (b : Binding). b.memory ∷ []) o []) y) (sym at) (subst (Contains (b.memory ∷ [])) is (contains_here b.memory [])))))))
  by_stands y (StandsBy.by_surface e) =
      contains_before _ named _ (contains_before _ (fetched v x) _ (contains_behind (parents ++ memories) surfaces _
      (subst (λ l. Contains l y) (sym (surfaces_are (v.live x))) (subst (λ o. Contains (option_map_or (λ s. s ∷ []) o []) y) (sym e) (contains_here y [])))))
  by_stands y (StandsBy.by_image c) = contains_before _ named _ (contains_behind (parents ++ memories ++ surfaces) (fetched v x) _ c)
  by_stands y (StandsBy.by_resource e c) =
      contains_behind (parents ++ memories ++ surfaces ++ fetched v x) named _ (subst (λ b. Contains (if b then flat_map resources_of (v.buffer x).commands else []) y) (sym e) c)

-- what a needed id depends on is needed
needed_below : (v : View) (range : List Event) (x y : ℕ) → Needed v range x → StandsBy v x y → Needed v range y
needed_below v range x y n (StandsBy.by_parent e is) = subst (Needed v range) is (as_parent x e n)
needed_below v range x y n (StandsBy.by_memory b u at is) = as_memory x y u (ap (λ o. option_map_or (λ (b : Binding). Some b.memory) o None) at ∙ ap Some is) n
needed_below v range x y n (StandsBy.by_surface e) = as_surface x y e n
needed_below v range x y n (StandsBy.by_image c) = as_image x y c n
needed_below v range x y n (StandsBy.by_resource e c) = as_resource x y e c n

-- a memory that is found
bound_to : (m : ℕ) (o : Option Binding) → option_map_or (λ (b : Binding). Some b.memory) o None ≡ Some m → (b : Binding) × (o ≡ Some b) × (b.memory ≡ m)
bound_to m None e = absurd (cc)
bound_to m (Some b) e = (b, refl, let same : b.memory ≡ m = cc in same)

pub needed_by_list : NeededByList
needed_by_list v range = record {
  more = λ x y n c. needed_below v range x y n (stands_by v x y c);
  all = λ id named closed. record {
    named = named;
    parent = λ x e on. closed x (parent_of v x) on (by_stands v x (parent_of v x) (StandsBy.by_parent e refl));
    memory = λ x m u e on. let b = bound_to m (v.bound x) e in closed x m on (by_stands v x m (StandsBy.by_memory b.0 u b.1 b.2));
    surface = λ x s e on. closed x s on (by_stands v x s (StandsBy.by_surface e));
    image = λ x i c on. closed x i on (by_stands v x i (StandsBy.by_image c));
    resource = λ cb r e c on. closed cb r on (by_stands v cb r (StandsBy.by_resource e c));
  };
}
