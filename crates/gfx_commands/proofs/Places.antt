-- Places for the resources of a command.
use Rattle.std.proofs.Common.{◌≡◌, ℕ, ◌+◌, ◌≤◌, ◌==◌, Bool, true, false, ◌&&◌, ◌||◌, List, [], ◌∷◌, length, Some, None, is_some, refl, ap, sym, ◌∙◌, arith}
use Rattle.std.specs.List.{list_all}
use Rattle.std.specs.Prelude.{unwrap_or, Option}
use Rattle.std.specs.Ordering.{nat_cmp}
use Rattle.std.specs.Cmp.{nat_cmp_total}
use Rattle.std.specs.FinMap as map
use Rattle.std.specs.FinMap.{FinMap, get-insert}
use Rattle.std.proofs.lemmas.Bool.Decides.{nat_tests}
use Rattle.gfx_table.specs.Slots.{Slots}
use Rattle.gfx_commands.specs.declared.uses.Use.{Use}
use Rattle.gfx_commands.specs.Uses.{HasPlaces, plain, use_of}

-- the first resource has a place, where it isn't named
pub place_for : (table : Slots Use) (id : ℕ) (rest : List ℕ) → HasPlaces table (id ∷ rest) → map.get table.map id ≡ None → 1 ≤ table.spare
place_for table id rest places none =
    let p : ℕ → Bool = λ x. is_some (map.get table.map x) in
    let not : list_all p (id ∷ rest) ≡ false = ap (λ o. is_some o && list_all p rest) none in
    let room = places not in omega (arith, room)

-- what two tests answer alike
pub same_all : (p q : ℕ → Bool) → ((x : ℕ) → p x ≡ q x) → (xs : List ℕ) → list_all p xs ≡ list_all q xs
same_all p q each [] = refl
same_all p q each (x ∷ xs) = λ i. each x i && same_all p q each xs i

-- once it is named, the others have theirs
pub places_left : (old new : Slots Use) (id : ℕ) (rest : List ℕ) → ((x : ℕ) → is_some (map.get new.map x) ≡ ((id == x) || is_some (map.get old.map x)))
    → old.spare ≤ new.spare + 1 → (is_some (map.get old.map id) ≡ true → old.spare ≤ new.spare) → HasPlaces old (id ∷ rest) → HasPlaces new rest
places_left old new id rest named one kept places not = by (is_some (map.get old.map id)) refl
  where
    p : ℕ → Bool
    p x = is_some (map.get old.map x)

    by : (t : Bool) → is_some (map.get old.map id) ≡ t → length rest ≤ new.spare
    by false none =
        let room = places (ap (λ t. t && list_all p rest) none) in omega (arith, room, one)
    by true some =
        let same : (x : ℕ) → is_some (map.get new.map x) ≡ p x = λ x. let a = named x in let here : id ≡ x → p id ≡ p x = ap p in grind (arith, nat_tests, a, here, some) in
        let old_not : list_all p rest ≡ false = sym (same_all _ p same rest) ∙ not in
        let room = places ((λ i. some i && old_not i)) in
        let fits = kept some in omega (arith, room, fits)

-- what is put under a resource leaves the others theirs
pub places_put : (old new : Slots Use) (id : ℕ) (one : Use) (rest : List ℕ) → new.map ≡ map.insert old.map id one → new.spare ≡ old.spare → HasPlaces old (id ∷ rest) → HasPlaces new rest
places_put old new id one rest put spare places =
    places_left old new id rest
    (λ x.
    let a = get-insert nat_cmp_total old.map id one x in
    let b = ap (λ m. map.get m x) put in
    grind (arith, nat_tests, a, b)) (omega (arith, spare)) (λ some. omega (arith, spare)) places

-- of what isn't named nothing is asked
pub missing_use : (uses : FinMap nat_cmp Use) (id : ℕ) → is_some (map.get uses id) ≡ false → use_of uses id ≡ plain
missing_use uses id none = by (map.get uses id) none
  where
    by : (o : Option Use) → is_some o ≡ false → unwrap_or o plain ≡ plain
    by None none = refl
    by (Some u) some = absurd (cc)
