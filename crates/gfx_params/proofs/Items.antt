-- Reading items one after the other, as a loop does.
use Rattle.std.proofs.Common.{◌≡◌, ℕ, suc, ◌+◌, ◌-◌, ◌<◌, ◌≤◌, List, [], ◌∷◌, ◌++◌, Option, Some, None, refl, sym, ap, subst, ◌∙◌, append_assoc, arith, rules}
use Rattle.std.specs.Prelude.{IsSome, map}
use Rattle.std.proofs.lemmas.List.{append-nil, map-append}
use Rattle.gfx_grammar.specs.Reading.{◌>>=◌, Reader, read_items}

-- what was read before, and what is still read
abbrev pub with_front : {X : Type 0} → List X → Option (List X × List ℕ) → Option (List X × List ℕ)
with_front front read = read >>= λ x. Some (front ++ x.0, x.1)

-- the items that were read, and those that are still read, are the list
abbrev pub Continues : {X : Type 0} → Reader X → List X → ℕ → List ℕ → Option (List X × List ℕ) → Type 0
Continues r front left bytes total = with_front front (read_items r left bytes) ≡ total

regroup : {X : Type 0} (front : List X) (x : X) (read : Option (List X × List ℕ)) → with_front front (read >>= λ y. Some (x ∷ y.0, y.1)) ≡ with_front (front ++ x ∷ []) read
regroup {X} front x (Some y) = ap (λ (xs : List X). Some (xs, y.1)) (simp append_assoc)
regroup front x None = refl

-- one item more was read
pub list_goes_on : {X : Type 0} (r : Reader X) (front : List X) (count i : ℕ) (bytes after : List ℕ) (x : X) (total : Option (List X × List ℕ)) → i < count → r bytes ≡ Some (x, after)
    → Continues r front (count - i) bytes total → Continues r (front ++ x ∷ []) (count - (i + 1)) after total
unfolding read_items
list_goes_on r front count i bytes after x total more is so_far =
    let left : count - i ≡ suc (count - (i + 1)) = omega arith in
    let one : with_front front (read_items r (count - i) bytes) ≡ with_front (front ++ x ∷ []) (read_items r (count - (i + 1)) after) =
    rw (left, is) (regroup front x (read_items r (count - (i + 1)) after)) in
    sym one ∙ so_far

-- where no item follows, there is no list
pub list_breaks : {X : Type 0} (r : Reader X) (front : List X) (count i : ℕ) (bytes : List ℕ) (total : Option (List X × List ℕ)) → i < count → r bytes ≡ None
    → Continues r front (count - i) bytes total → total ≡ None
unfolding read_items
list_breaks r front count i bytes total more none so_far =
    let left : count - i ≡ suc (count - (i + 1)) = omega arith in
    let one : with_front front (read_items r (count - i) bytes) ≡ None = rw (left, none) refl in
    sym so_far ∙ one

-- where there is a list, an item follows
is_there : {X : Type 0} (r : Reader X) (front : List X) (count i : ℕ) (bytes : List ℕ) (total : Option (List X × List ℕ)) → i < count → IsSome total
    → Continues r front (count - i) bytes total → (item : Option (X × List ℕ)) → r bytes ≡ item → IsSome item
is_there r front count i bytes total more some so_far (Some x) is = search rules
is_there r front count i bytes total more some so_far None is = subst IsSome (list_breaks r front count i bytes total more is so_far) some

pub item_follows : {X : Type 0} (r : Reader X) (front : List X) (count i : ℕ) (bytes : List ℕ) (total : Option (List X × List ℕ)) → i < count → IsSome total
    → Continues r front (count - i) bytes total → IsSome (r bytes)
item_follows r front count i bytes total more some so_far = is_there r front count i bytes total more some so_far (r bytes) refl

-- once all items were read, they are the list
pub list_ends : {X : Type 0} (r : Reader X) (front : List X) (count i : ℕ) (bytes : List ℕ) (total : Option (List X × List ℕ)) → count ≤ i
    → Continues r front (count - i) bytes total → total ≡ Some (front, bytes)
unfolding read_items
list_ends {X} r front count i bytes total all so_far =
    let left : count - i ≡ 0 = omega arith in
    let one : with_front front (read_items r (count - i) bytes) ≡ Some (front, bytes) = rw left (ap (λ (xs : List X). Some (xs, bytes)) (append-nil front)) in
    sym so_far ∙ one

-- the values as they are seen, with one more
pub map-one_more : {X Y : Type 0} (f : X → Y) (xs : List X) (x : X) → map f (xs ++ x ∷ []) ≡ map f xs ++ f x ∷ []
map-one_more f xs x = map-append f xs (x ∷ [])

-- values that are seen as they are
pub map_same : {X : Type 0} (xs : List X) → map (λ x. x) xs ≡ xs
map_same [] = refl
map_same (x ∷ xs) = ap (λ ys. x ∷ ys) (map_same xs)
