-- What has been read, as lines are added to it.
use Rattle.std.proofs.Common.{◌≡◌, ℕ, ◌==◌, ◌||◌, Bool, true, false, List, [], ◌∷◌, ◌++◌, map, refl, ap, ◌∙◌}
use Rattle.std.specs.Prelude.{reverse}
use Rattle.std.specs.List.{list_any}
use Rattle.std.proofs.lemmas.List.{reverse-append}
use Rattle.std.proofs.lemmas.List.Folds.{list_any-append}
use Rattle.gfx_script_model.specs.Scripts as script
use Rattle.gfx_script_model.specs.Scripts.{part_in_order, phase_in_order, in_order, has_thread}
use Rattle.gfx_script.proofs.Order.{phases_pushed, parts_pushed, lines_pushed}

-- a test of each item, of the list turned round
any_turned : {X : Type 0} (p : X → Bool) (xs : List X) → list_any p (reverse xs) ≡ list_any p xs
any_turned p [] = refl
any_turned p (x ∷ xs) =
    ap (list_any p) (reverse-append (x ∷ []) xs) ∙ list_any-append p (reverse xs) (x ∷ [])
    ∙ ap (λ b. b || (p x || false)) (any_turned p xs) ∙ swap (list_any p xs) (p x)
  where
    swap : (a b : Bool) → (a || (b || false)) ≡ (b || a)
    swap true true = refl
    swap true false = refl
    swap false true = refl
    swap false false = refl

any_mapped : (n : ℕ) (parts : List script.Part) → list_any (λ p. p.thread == n) (map part_in_order parts) ≡ list_any (λ p. p.thread == n) parts
any_mapped n [] = refl
any_mapped n (p ∷ ps) = ap (λ b. (p.thread == n) || b) (any_mapped n ps)

-- a thread was in a phase, in either order
pub stood_in_order : (n : ℕ) (parts : List script.Part) → has_thread n (phase_in_order parts) ≡ list_any (λ p. p.thread == n) parts
stood_in_order n parts = any_turned (λ p. p.thread == n) (map part_in_order parts) ∙ any_mapped n parts

-- a phase with one more thread
pub thread_pushed : (phases : List (List script.Part)) (parts : List script.Part) (thread : ℕ)
    → in_order (phases ++ (parts ++ record { thread = thread; lines = [] } ∷ []) ∷ []) ≡ (record { thread = thread; lines = [] } ∷ phase_in_order parts) ∷ in_order phases
thread_pushed phases parts thread =
    phases_pushed phases (parts ++ record { thread = thread; lines = [] } ∷ []) ∙ ap (λ (z : List script.Part). z ∷ in_order phases) (parts_pushed parts (record { thread = thread; lines = [] }))

-- a thread with one more line
pub line_pushed : (phases : List (List script.Part)) (parts : List script.Part) (thread : ℕ) (lines : List script.Line) (line : script.Line)
    → in_order (phases ++ (parts ++ record { thread = thread; lines = lines ++ line ∷ [] } ∷ []) ∷ [])
    ≡ (record { thread = thread; lines = line ∷ reverse lines } ∷ phase_in_order parts) ∷ in_order phases
line_pushed phases parts thread lines line =
    phases_pushed phases (parts ++ record { thread = thread; lines = lines ++ line ∷ [] } ∷ [])
    ∙ ap (λ (z : List script.Part). z ∷ in_order phases) (parts_pushed parts (record { thread = thread; lines = lines ++ line ∷ [] }) ∙ ap (λ (z : script.Part). z ∷ phase_in_order parts) (lines_pushed thread lines line))
