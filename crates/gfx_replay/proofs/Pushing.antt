-- A list of what a function gives, one item after another.
use Rattle.std.proofs.Common.{◌≡◌, ℕ, ◌+◌, ◌<◌, refl, sym, ap, ◌∙◌, List, [], ◌∷◌, ◌++◌, length, take, get_or, filter_map, Option, Some, None}
use Rattle.std.specs.List.{cons_option}
use Rattle.std.proofs.lemmas.List.{take_more}

cons_append : {X : Type 0} (o : Option X) (xs ys : List X) → cons_option o (xs ++ ys) ≡ cons_option o xs ++ ys
cons_append None xs ys = refl
cons_append (Some x) xs ys = refl

filter_map-end : {X Y : Type 0} (f : X → Option Y) (xs : List X) (x : X) → filter_map f (xs ++ x ∷ []) ≡ filter_map f xs ++ cons_option (f x) []
filter_map-end f [] x = refl
filter_map-end f (y ∷ ys) x = ap (cons_option (f y)) (filter_map-end f ys x) ∙ cons_append (f y) (filter_map f ys) (cons_option (f x) [])

-- one more item, and what the function gives of it
pub filter_map_more : {X Y : Type 0} (f : X → Option Y) (xs : List X) (i : ℕ) (d : X) (o : Option Y) → i < length xs → o ≡ f (get_or xs i d) →
    filter_map f (take (i + 1) xs) ≡ filter_map f (take i xs) ++ cons_option o []
filter_map_more f xs i d o below is =
    ap (filter_map f) (take_more xs i d below) ∙ filter_map-end f (take i xs) (get_or xs i d) ∙ ap (λ p. filter_map f (take i xs) ++ cons_option p []) (sym is)
