-- Phases, threads and lines in order, and with the newest first.
use Rattle.std.proofs.Common.{◌≡◌, ℕ, List, [], ◌∷◌, ◌++◌, map, refl, ap, ◌∙◌}
use Rattle.std.specs.Prelude.{reverse}
use Rattle.std.proofs.lemmas.List.{map-append, reverse-append, reverse-reverse}
use Rattle.gfx_script_model.specs.Scripts.{Line, Part, part_in_order, phase_in_order, in_order}

-- the last comes first
turned : {X Y : Type 0} (f : X → Y) (xs : List X) (x : X) → reverse (map f (xs ++ x ∷ [])) ≡ f x ∷ reverse (map f xs)
turned f xs x = ap reverse (map-append f xs (x ∷ [])) ∙ reverse-append (map f xs) (f x ∷ [])

-- twice turned
turned_twice : {X : Type 0} (f : X → X) → ((x : X) → f (f x) ≡ x) → (xs : List X) → reverse (map f (reverse (map f xs))) ≡ xs
turned_twice {X = X} f back xs = by xs
  where
    by : (ys : List X) → reverse (map f (reverse (map f ys))) ≡ ys
    by [] = refl
    by (y ∷ ys) = ap (λ (z : List X). reverse (map f z)) (reverse-append (f y ∷ []) (map f ys)) ∙ turned f (reverse (map f ys)) (f y) ∙ (λ i. back y i ∷ by ys i)

pub phases_pushed : (phases : List (List Part)) (parts : List Part) → in_order (phases ++ parts ∷ []) ≡ phase_in_order parts ∷ in_order phases
phases_pushed phases parts = turned phase_in_order phases parts

pub parts_pushed : (parts : List Part) (part : Part) → phase_in_order (parts ++ part ∷ []) ≡ part_in_order part ∷ phase_in_order parts
parts_pushed parts part = turned part_in_order parts part

pub lines_pushed : (thread : ℕ) (lines : List Line) (line : Line)
    → part_in_order (record { thread = thread; lines = lines ++ line ∷ [] }) ≡ record { thread = thread; lines = line ∷ reverse lines }
lines_pushed thread lines line = λ i. record { thread = thread; lines = reverse-append lines (line ∷ []) i }

part_back : (p : Part) → part_in_order (part_in_order p) ≡ p
part_back p = λ i. record { thread = p.thread; lines = reverse-reverse p.lines i }

phase_back : (parts : List Part) → phase_in_order (phase_in_order parts) ≡ parts
phase_back parts = turned_twice part_in_order part_back parts

pub order_back : (phases : List (List Part)) → in_order (in_order phases) ≡ phases
order_back phases = turned_twice phase_in_order phase_back phases
