-- The first fault of checks that stand one list after another.
use Rattle.std.proofs.Common.{◌≡◌, ◌<◌, ◌+◌, ℕ, List, [], ◌∷◌, ◌++◌, Option, Some, None, flat_map, length, drop, get_or, refl, sym, ap, ◌∙◌, Bool, append_assoc}
use Rattle.std.proofs.lemmas.List.{at_drop_more}
use Rattle.gfx_types.specs.declared.names.Fault.{Fault}
use Rattle.gfx_model.specs.Views.{View}
use Rattle.gfx_model.specs.Checks.{Check, Turn, first, unless, broken, first_broken, turns_fault}
use Rattle.gfx_model.specs.Checks.Check.{must, in_turn, frame_room}

pub first_assoc : (a b c : Option Fault) → first (first a b) c ≡ first a (first b c)
first_assoc (Some f) b c = refl
first_assoc None b c = refl

pub alone : (a : Option Fault) → first a None ≡ a
alone (Some f) = refl
alone None = refl

pub appended : (v : View) (xs ys : List Check) → first_broken v (xs ++ ys) ≡ first (first_broken v xs) (first_broken v ys)
appended v [] ys = refl
appended v (x ∷ xs) ys = ap (first (broken v x)) (appended v xs ys) ∙ sym (first_assoc (broken v x) (first_broken v xs) (first_broken v ys))

-- the prefix of a row is broken
pub stops : (v : View) (front more row : List Check) (f : Fault) → Some f ≡ first_broken v front → row ≡ front ++ more → Some f ≡ first_broken v row
stops v front more row f e is = ap (λ x. first x (first_broken v more)) e ∙ sym (appended v front more) ∙ ap (first_broken v) (sym is)

-- the prefix of a row is whole
pub goes_on : (v : View) (front more row : List Check) (o : Option Fault) → None ≡ first_broken v front → o ≡ first_broken v more
    → row ≡ front ++ more → o ≡ first_broken v row
goes_on v front more row o e f is =
    f ∙ ap (λ x. first x (first_broken v more)) e ∙ sym (appended v front more) ∙ ap (first_broken v) (sym is)

-- the faults of two parts
pub joins : (v : View) (xs ys row : List Check) (a b o : Option Fault) → a ≡ first_broken v xs → b ≡ first_broken v ys → o ≡ first a b
    → row ≡ xs ++ ys → o ≡ first_broken v row
joins v xs ys row a b o e f is same =
    is ∙ ap (λ x. first x b) e ∙ ap (first (first_broken v xs)) f ∙ sym (appended v xs ys) ∙ ap (first_broken v) (sym same)

-- an item of a list breaks a check
pub breaks : {X : Type 0} (v : View) (checks : X → List Check) (xs : List X) (i : ℕ) (d : X) (f : Fault) (all : Option Fault) → i < length xs
    → Some f ≡ first_broken v (checks (get_or xs i d)) → first_broken v (flat_map checks (drop i xs)) ≡ all → Some f ≡ all
breaks v checks xs i d f all h e left =
    ap (λ x. first x (first_broken v (flat_map checks (drop (i + 1) xs)))) e
    ∙ sym (at_drop_more (λ ys. first_broken v (flat_map checks ys)) xs i d h ∙ appended v (checks (get_or xs i d)) (flat_map checks (drop (i + 1) xs))) ∙ left

-- an item of a list breaks no check
pub passes : {X : Type 0} (v : View) (checks : X → List Check) (xs : List X) (i : ℕ) (d : X) (all : Option Fault) → i < length xs
    → None ≡ first_broken v (checks (get_or xs i d)) → first_broken v (flat_map checks (drop i xs)) ≡ all
    → first_broken v (flat_map checks (drop (i + 1) xs)) ≡ all
passes v checks xs i d all h e left =
    ap (λ x. first x (first_broken v (flat_map checks (drop (i + 1) xs)))) e
    ∙ sym (at_drop_more (λ ys. first_broken v (flat_map checks ys)) xs i d h ∙ appended v (checks (get_or xs i d)) (flat_map checks (drop (i + 1) xs))) ∙ left

-- the same of an item that is the one at its place
pub breaks_at : {X : Type 0} (v : View) (checks : X → List Check) (xs : List X) (i : ℕ) (x : X) (f : Fault) (all : Option Fault) → i < length xs → x ≡ get_or xs i x
    → Some f ≡ first_broken v (checks x) → first_broken v (flat_map checks (drop i xs)) ≡ all → Some f ≡ all
breaks_at v checks xs i x f all h is e left = breaks v checks xs i x f all h (e ∙ ap (λ y. first_broken v (checks y)) is) left

pub passes_at : {X : Type 0} (v : View) (checks : X → List Check) (xs : List X) (i : ℕ) (x : X) (all : Option Fault) → i < length xs → x ≡ get_or xs i x
    → None ≡ first_broken v (checks x) → first_broken v (flat_map checks (drop i xs)) ≡ all → first_broken v (flat_map checks (drop (i + 1) xs)) ≡ all
passes_at v checks xs i x all h is e left = passes v checks xs i x all h (e ∙ ap (λ y. first_broken v (checks y)) is) left

-- a prefix that is before three, four or five more parts
pub three_more : (f a b c : List Check) → ((f ++ a) ++ b) ++ c ≡ f ++ ((a ++ b) ++ c)
three_more f a b c = ap (λ xs. xs ++ c) (append_assoc f a b) ∙ append_assoc f (a ++ b) c

pub four_more : (f a b c d : List Check) → (((f ++ a) ++ b) ++ c) ++ d ≡ f ++ (((a ++ b) ++ c) ++ d)
four_more f a b c d = ap (λ xs. xs ++ d) (three_more f a b c) ∙ append_assoc f ((a ++ b) ++ c) d

pub five_more : (f a b c d e : List Check) → ((((f ++ a) ++ b) ++ c) ++ d) ++ e ≡ f ++ ((((a ++ b) ++ c) ++ d) ++ e)
five_more f a b c d e = ap (λ xs. xs ++ e) (four_more f a b c d) ∙ append_assoc f (((a ++ b) ++ c) ++ d) e

-- a condition alone
pub must_is : (v : View) (n : Fault) (holds : Bool) → broken v (must n holds) ≡ unless holds n
unfolding broken
must_is v n holds = refl

-- a condition, and turns
pub ordered : (v : View) (n : Fault) (holds : Bool) (turns : List Turn) (a b : Option Fault) → a ≡ unless holds n → b ≡ turns_fault v v.signalled v.layout turns
    → first a b ≡ first_broken v (must n holds ∷ in_turn turns ∷ [])
unfolding broken
ordered v n holds turns a b e f = ap (λ o. first o b) e ∙ ap (first (unless holds n)) (f ∙ sym (alone (turns_fault v v.signalled v.layout turns)))

-- turns, and room for a frame
pub framed : (v : View) (turns : List Turn) (a b : Option Fault) → a ≡ turns_fault v v.signalled v.layout turns → b ≡ first_broken v (frame_room ∷ [])
    → first a b ≡ first_broken v (in_turn turns ∷ frame_room ∷ [])
unfolding broken
framed v turns a b e f = ap (λ o. first o b) e ∙ ap (first (turns_fault v v.signalled v.layout turns)) f
