-- Names that are numbered in order, and a table that has their ids.
use Rattle.std.proofs.Common.{◌≡◌, ℕ, zero, suc, ◌+◌, ◌<◌, List, [], ◌∷◌, ◌++◌, map, length, slice_index, sym, refl, ap, ◌∙◌, subst, arith, append_assoc, length-append}
use Rattle.std.proofs.lemmas.List.{get_or_append_left, get_or_at}
use Rattle.std.proofs.lemmas.List.Concat.{flat_map-append}
use Rattle.gfx_script_model.specs.Ids.{defines_of}
use Rattle.gfx_script_model.specs.Scripts.{Line, Part}
use Rattle.gfx_script_law.specs.Playable.{AreNumbered, names_of, numbers_from, phase_lines, script_lines}

pub names-append : (a b : List Line) → names_of (a ++ b) ≡ names_of a ++ names_of b
names-append a b = flat_map-append (λ (l : Line). defines_of 2 l.event) a b

pub names-count : (a b : List Line) → length (names_of (a ++ b)) ≡ length (names_of a) + length (names_of b)
names-count a b = ap length (names-append a b) ∙ length-append (names_of a) (names_of b)

pub lines-append : (a b : List (List Part)) → script_lines (a ++ b) ≡ script_lines a ++ script_lines b
lines-append a b = flat_map-append phase_lines a b

pub parts-append : (a b : List Part) → phase_lines (a ++ b) ≡ phase_lines a ++ phase_lines b
parts-append a b = flat_map-append (λ (p : Part). p.lines) a b

-- the first of some lines are numbered from the same number on, and the others behind them
pub numbered-parts : (next : ℕ) (a b : List Line) → AreNumbered next (a ++ b) → AreNumbered next a × AreNumbered (next + length (names_of a)) b
numbered-parts next [] b h = (tt, (let e : next ≡ next + 0 = omega arith in subst (λ n. AreNumbered n b) e h))
numbered-parts next (l ∷ a) b h =
    let r = numbered-parts (next + length (defines_of 2 l.event)) a b h.2 in
    let c = length-append (defines_of 2 l.event) (names_of a) in
    let e : next + length (defines_of 2 l.event) + length (names_of a) ≡ next + length (names_of (l ∷ a)) = omega arith in
    ((h.0, h.1, r.0), subst (λ n. AreNumbered n b) e r.1)

numbers-append : (n a b : ℕ) → numbers_from n (a + b) ≡ numbers_from n a ++ numbers_from (n + a) b
numbers-append n zero b = let e : 0 + b ≡ b = omega arith in let f : n ≡ n + 0 = omega arith in λ i. numbers_from (f i) (e i)
numbers-append n (suc a) b =
    let e : suc a + b ≡ suc (a + b) = omega arith in let f : n + 1 + a ≡ n + suc a = omega arith in
    ap (numbers_from n) e ∙ (ap (λ l. n ∷ l) (numbers-append (n + 1) a b) ∙ ap (λ k. n ∷ (numbers_from (n + 1) a ++ numbers_from k b)) f)

-- the names of numbered lines are the numbers from there on
pub numbered-names : (next : ℕ) (lines : List Line) → AreNumbered next lines → names_of lines ≡ numbers_from next (length (names_of lines))
numbered-names next [] h = refl
numbered-names next (l ∷ ls) h =
    let d = defines_of 2 l.event in
    (λ i. h.1 i ++ numbered-names (next + length d) ls h.2 i)
    ∙ (sym (numbers-append next (length d) (length (names_of ls))) ∙ ap (numbers_from next) (sym (length-append d (names_of ls))))

-- ---- tables

-- a longer table has the same ids
pub longer-table : (table more : List ℕ) (k : ℕ) → k < length table → slice_index table k ≡ slice_index (table ++ more) k
longer-table table more k less = sym (get_or_append_left table more 0 k less)

-- the ids behind a table are those of the next names
pub ids-there : (table ids more : List ℕ) → map (λ k. slice_index ((table ++ ids) ++ more) k) (numbers_from (length table) (length ids)) ≡ ids
ids-there table [] more = refl
ids-there table (x ∷ ids) more =
    let first : slice_index ((table ++ x ∷ ids) ++ more) (length table) ≡ x = ap (λ l. slice_index l (length table)) (append_assoc table (x ∷ ids) more) ∙ get_or_at table x (ids ++ more) 0 (length table) refl in
    let same : (table ++ x ∷ []) ++ ids ≡ table ++ x ∷ ids = append_assoc table (x ∷ []) ids in
    let long : length (table ++ x ∷ []) ≡ length table + 1 = length-append table (x ∷ []) in
    let rest = ids-there (table ++ x ∷ []) ids more in
    λ i. first i ∷ (subst (λ (z : List ℕ × ℕ). map (λ k. slice_index (z.0 ++ more) k) (numbers_from z.1 (length ids)) ≡ ids) (λ j. (same j, long j)) rest) i
