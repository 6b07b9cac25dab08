-- Ids that are new one after another, from a place on.
use Rattle.std.proofs.Common.{◌≡◌, ◌<◌, ◌≤◌, ◌||◌, ◌==◌, ℕ, ◌+◌, false, not, List, [], ◌∷◌, length, take, drop, get_or, reverse, Option, Some, None, refl, sym, ap, ◌∙◌, arith}
use Rattle.std.proofs.lemmas.Bool.Decides.{nat_tests}
use Rattle.std.proofs.lemmas.List.{at_drop_more, take_more, reverse-append}
use Rattle.std.proofs.lemmas.List.Folds.{list_any_more}
use Rattle.std.proofs.lemmas.List.Sorted.{list_any-IsPermutation, IsPermutation-reverse}
use Rattle.gfx_types.specs.declared.names.Fault.{Fault}
use Rattle.gfx_types.specs.declared.names.Fault.TheVariants.{NotLive}
use Rattle.gfx_types.specs.declared.names.Kind.{Kind}
use Rattle.gfx_model.specs.Views.{View}
use Rattle.gfx_model.specs.Checks.{first, broken, first_broken, new_fault, new_faults, room_fault, is_among}
use Rattle.gfx_model.specs.Checks.Check.{live, must, room}
use Rattle.gfx_model.specs.Table.{new_each, live_once}
use Rattle.gfx_rules.proofs.Joined.{appended, alone}

-- the ids before a place, the last one first
abbrev pub behind : List ℕ → ℕ → List ℕ
behind ids i = reverse (take i ids)

pub among_behind : (ids : List ℕ) (i x : ℕ) → is_among x (take i ids) ≡ is_among x (behind ids i)
among_behind ids i x = list_any-IsPermutation (λ y. y == x) _ _ (IsPermutation-reverse (take i ids))

behind_more : (ids : List ℕ) (i : ℕ) → i < length ids → behind ids (i + 1) ≡ get_or ids i 0 ∷ behind ids i
behind_more ids i h = ap reverse (take_more ids i 0 h) ∙ reverse-append (take i ids) (get_or ids i 0 ∷ [])

rest : (v : View) (ids : List ℕ) (i : ℕ) → i < length ids
    → new_faults v (behind ids i) (drop i ids) ≡ first (new_fault v (behind ids i) (get_or ids i 0)) (new_faults v (behind ids (i + 1)) (drop (i + 1) ids))
rest v ids i h =
    at_drop_more (new_faults v (behind ids i)) ids i 0 h
    ∙ ap (λ e. first (new_fault v (behind ids i) (get_or ids i 0)) (new_faults v e (drop (i + 1) ids))) (sym (behind_more ids i h))

pub breaks : (v : View) (ids : List ℕ) (i : ℕ) (f : Fault) (all : Option Fault) → i < length ids
    → Some f ≡ new_fault v (behind ids i) (get_or ids i 0) → new_faults v (behind ids i) (drop i ids) ≡ all → Some f ≡ all
breaks v ids i f all h e left = ap (λ x. first x (new_faults v (behind ids (i + 1)) (drop (i + 1) ids))) e ∙ sym (rest v ids i h) ∙ left

pub passes : (v : View) (ids : List ℕ) (i : ℕ) (all : Option Fault) → i < length ids
    → None ≡ new_fault v (behind ids i) (get_or ids i 0) → new_faults v (behind ids i) (drop i ids) ≡ all
    → new_faults v (behind ids (i + 1)) (drop (i + 1) ids) ≡ all
passes v ids i all h e left = ap (λ x. first x (new_faults v (behind ids (i + 1)) (drop (i + 1) ids))) e ∙ sym (rest v ids i h) ∙ left

other : (x y : ℕ) → y < x → (y == x) ≡ false
other x y h = grind (arith, nat_tests)

higher : (x y : ℕ) → x < y → (y == x) ≡ false
higher x y h = grind (arith, nat_tests)

-- no id before a place is above m, where none before the last is and the last isn't either
pub above_more : (ids : List ℕ) (i g m : ℕ) → i < length ids → ((x : ℕ) → g < x → is_among x (take i ids) ≡ false)
    → g ≤ m → get_or ids i 0 ≤ m → (x : ℕ) → m < x → is_among x (take (i + 1) ids) ≡ false
above_more ids i g m h above a b x lt =
    list_any_more (λ y. y == x) ids i 0 h ∙ ap (λ t. t || (get_or ids i 0 == x)) (above x (omega arith)) ∙ other x (get_or ids i 0) (omega arith)

-- nor below m, where none before the last is and the last isn't either
pub below_more : (ids : List ℕ) (i l m : ℕ) → i < length ids → ((x : ℕ) → x < l → is_among x (take i ids) ≡ false)
    → m ≤ l → m ≤ get_or ids i 0 → (x : ℕ) → x < m → is_among x (take (i + 1) ids) ≡ false
below_more ids i l m h below a b x lt =
    list_any_more (λ y. y == x) ids i 0 h ∙ ap (λ t. t || (get_or ids i 0 == x)) (below x (omega arith)) ∙ higher x (get_or ids i 0) (omega arith)

-- the checks of new ids
pub news : (v : View) (earlier ids : List ℕ) → first_broken v (new_each earlier ids) ≡ new_faults v earlier ids
unfolding broken
news v earlier [] = refl
news v earlier (x ∷ xs) = ap (first (new_fault v earlier x)) (news v (x ∷ earlier) xs)

pub rooms : (v : View) (n : ℕ) → first_broken v (room n ∷ []) ≡ room_fault v n
unfolding broken
rooms v n = alone (room_fault v n)

once_rest : (v : View) (k : Kind) (ids : List ℕ) (i : ℕ) → i < length ids
    → first_broken v (live_once k (behind ids i) (drop i ids))
    ≡ first (first_broken v (live k (get_or ids i 0) ∷ must NotLive (not (is_among (get_or ids i 0) (behind ids i))) ∷ [])) (first_broken v (live_once k (behind ids (i + 1)) (drop (i + 1) ids)))
once_rest v k ids i h =
    at_drop_more (λ xs. first_broken v (live_once k (behind ids i) xs)) ids i 0 h
    ∙ appended v (live k (get_or ids i 0) ∷ must NotLive (not (is_among (get_or ids i 0) (behind ids i))) ∷ []) (live_once k (get_or ids i 0 ∷ behind ids i) (drop (i + 1) ids))
    ∙ ap (λ e. first (first_broken v (live k (get_or ids i 0) ∷ must NotLive (not (is_among (get_or ids i 0) (behind ids i))) ∷ [])) (first_broken v (live_once k e (drop (i + 1) ids)))) (sym (behind_more ids i h))

pub once_breaks : (v : View) (k : Kind) (ids : List ℕ) (i : ℕ) (f : Fault) (all : Option Fault) → i < length ids
    → Some f ≡ first_broken v (live k (get_or ids i 0) ∷ must NotLive (not (is_among (get_or ids i 0) (behind ids i))) ∷ [])
    → first_broken v (live_once k (behind ids i) (drop i ids)) ≡ all → Some f ≡ all
once_breaks v k ids i f all h e left =
    ap (λ x. first x (first_broken v (live_once k (behind ids (i + 1)) (drop (i + 1) ids)))) e ∙ sym (once_rest v k ids i h) ∙ left

pub once_passes : (v : View) (k : Kind) (ids : List ℕ) (i : ℕ) (all : Option Fault) → i < length ids
    → None ≡ first_broken v (live k (get_or ids i 0) ∷ must NotLive (not (is_among (get_or ids i 0) (behind ids i))) ∷ [])
    → first_broken v (live_once k (behind ids i) (drop i ids)) ≡ all → first_broken v (live_once k (behind ids (i + 1)) (drop (i + 1) ids)) ≡ all
once_passes v k ids i all h e left =
    ap (λ x. first x (first_broken v (live_once k (behind ids (i + 1)) (drop (i + 1) ids)))) e ∙ sym (once_rest v k ids i h) ∙ left
