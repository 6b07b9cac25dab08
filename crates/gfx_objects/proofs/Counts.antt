-- What changes of the counts make of the number of children.
use Rattle.std.proofs.Common.{◌≡◌, ℕ, ◌+◌, ◌-◌, ◌≤◌, ◌==◌, Option, Some, None, if◌then◌else◌, ap, ◌∙◌, arith, unwrap_or}
use Rattle.std.proofs.lemmas.Bool.Decides.{nat_tests}
use Rattle.std.specs.Ordering.{nat_cmp}
use Rattle.std.specs.FinMap as map
use Rattle.std.specs.FinMap.{FinMap, get-empty}
use Rattle.gfx_table.specs.Rows.{got-insert, got-remove}
use Rattle.gfx_objects.specs.Children.{count_of}

pub count_of-empty : count_of map.empty ≡ (λ parent. 0)
unfolding count_of
count_of-empty = λ i q. unwrap_or ((get-empty nat_cmp q) i) 0

inserted : (o : Option ℕ) (p q n : ℕ) → unwrap_or (if p == q then Some n else o) 0 ≡ (if p == q then n else unwrap_or o 0)
inserted o p q n = grind (arith, nat_tests)

removed : (o : Option ℕ) (p q : ℕ) → unwrap_or (if p == q then None else o) 0 ≡ (if p == q then 0 else unwrap_or o 0)
removed o p q = grind (arith, nat_tests)

set_at : (m : FinMap nat_cmp ℕ) (p n : ℕ) (q : ℕ) → count_of (map.insert m p n) q ≡ (if p == q then n else count_of m q)
unfolding count_of
set_at m p n q = ap (λ f. unwrap_or (f q) 0) (got-insert m p n) ∙ inserted (map.get m q) p q n

gone_at : (m : FinMap nat_cmp ℕ) (p : ℕ) (q : ℕ) → count_of (map.remove m p) q ≡ (if p == q then 0 else count_of m q)
unfolding count_of
gone_at m p q = ap (λ f. unwrap_or (f q) 0) (got-remove m p) ∙ removed (map.get m q) p q

more_at : (m : FinMap nat_cmp ℕ) (p n : ℕ) → n ≡ count_of m p → (q : ℕ) → count_of (map.insert m p (n + 1)) q ≡ (if p == q then count_of m q + 1 else count_of m q)
more_at m p n is q =
    let a = set_at m p (n + 1) q in
    let here : p ≡ q → n ≡ count_of m q = λ e. is ∙ ap (count_of m) e in
    grind (arith, nat_tests, a, here)

less_at : (m : FinMap nat_cmp ℕ) (p n : ℕ) → n ≡ count_of m p → (q : ℕ) → count_of (map.insert m p (n - 1)) q ≡ (if p == q then count_of m q - 1 else count_of m q)
less_at m p n is q =
    let a = set_at m p (n - 1) q in
    let here : p ≡ q → n ≡ count_of m q = λ e. is ∙ ap (count_of m) e in
    grind (arith, nat_tests, a, here)

none_at : (m : FinMap nat_cmp ℕ) (p n : ℕ) → n ≡ count_of m p → n ≤ 1 → (q : ℕ) → count_of (map.remove m p) q ≡ (if p == q then count_of m q - 1 else count_of m q)
none_at m p n is few q =
    let a = gone_at m p q in
    let here : p ≡ q → n ≡ count_of m q = λ e. is ∙ ap (count_of m) e in
    grind (arith, nat_tests, a, here)

pub one_more : (m : FinMap nat_cmp ℕ) (p n : ℕ) → n ≡ count_of m p → count_of (map.insert m p (n + 1)) ≡ (λ q. if p == q then count_of m q + 1 else count_of m q)
one_more m p n is = λ i q. (more_at m p n is q) i

pub one_less : (m : FinMap nat_cmp ℕ) (p n : ℕ) → n ≡ count_of m p → count_of (map.insert m p (n - 1)) ≡ (λ q. if p == q then count_of m q - 1 else count_of m q)
one_less m p n is = λ i q. (less_at m p n is q) i

pub none_left : (m : FinMap nat_cmp ℕ) (p n : ℕ) → n ≡ count_of m p → n ≤ 1 → count_of (map.remove m p) ≡ (λ q. if p == q then count_of m q - 1 else count_of m q)
none_left m p n is few = λ i q. (none_at m p n is few q) i

-- a parent with children is in the map
pub counted : (m : FinMap nat_cmp ℕ) (p n : ℕ) → n ≡ count_of m p → 1 ≤ n → None ≡ map.get m p → ⊥
unfolding count_of
counted m p n is some none = let a = ap (λ o. unwrap_or o 0) none in omega (arith, is, a)
