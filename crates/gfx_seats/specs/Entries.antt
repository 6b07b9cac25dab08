-- Lists of entries and of ids: who made what.
use Rattle.std.specs.Prelude.{◌≡◌, ℕ, ◌+◌, ◌<◌, ◌==◌, Bool, true, false, List, [], ◌∷◌, ◌++◌, All, filter}

-- 1 where the test holds
abbrev pub weight : Bool → ℕ
weight true = 1
weight false = 0

-- how often x is in a list
abbrev pub times : ℕ → List ℕ → ℕ
times x [] = 0
times x (y ∷ ys) = weight (y == x) + times x ys

-- the sum of what f gives for each item
abbrev pub total : {A : Type 0} → (A → ℕ) → List A → ℕ
total f [] = 0
total f (x ∷ xs) = f x + total f xs

-- the entries of one thread, in order
abbrev pub entries_of : {E : Type 0} → (E → ℕ) → ℕ → List E → List E
entries_of thread_of t log = filter (λ e. thread_of e == t) log

-- how often entries create the id x
abbrev pub created : {E : Type 0} → (E → List ℕ) → ℕ → List E → ℕ
created ids_of x log = total (λ e. times x (ids_of e)) log

-- every id in xs is one of ys
abbrev pub AreAmong : List ℕ → List ℕ → Type 0
AreAmong xs ys = (x : ℕ) → 0 < times x xs → 0 < times x ys

-- an entry of this thread, which creates ids of these alone
abbrev pub IsEntryOf : {E : Type 0} → (E → ℕ) → (E → List ℕ) → ℕ → List ℕ → E → Type 0
IsEntryOf thread_of ids_of t ids e = (thread_of e ≡ t) × AreAmong (ids_of e) ids

-- entries of this thread come at the end, and create ids of these alone
abbrev pub Adds : {E : Type 0} → (E → ℕ) → (E → List ℕ) → List E → ℕ → List ℕ → List E → Type 0
Adds {E} thread_of ids_of old t ids new = (more : List E) × (new ≡ old ++ more) × All (IsEntryOf thread_of ids_of t ids) more
