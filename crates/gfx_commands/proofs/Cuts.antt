-- The fields of commands, cut where each of them ends.
use Rattle.std.proofs.Common.{◌≡◌, ℕ, zero, suc, ◌+◌, ◌<◌, ◌≤◌, List, [], ◌∷◌, ◌++◌, length, drop, Some, None, refl, ap, sym, ◌∙◌, arith, length-append}
use Rattle.std.specs.Prelude.{slice_get, slice_index_or, slice_range, sum_by}
use Rattle.std.proofs.lemmas.List.{take-append-le, drop_at}
use Rattle.std.proofs.lemmas.List.Edits.{length-between}
use Rattle.std.proofs.lemmas.List.Sums.{sum_by-cons}
use Rattle.std.proofs.lemmas.Slice.{between_is, between_to_end}
use Rattle.gfx_commands.specs.declared.commands.Command.{Command}
use Rattle.gfx_commands.specs.Commands.{Spelled, cut, IsCut, start_at}

-- the command at a place, with its fields
abbrev pub spelled_at : ℕ → List ℕ → List Command → ℕ → Command → Spelled
spelled_at start fields cs k c = record { call_id = c.call_id; params = slice_range fields (start_at start cs k) c.end }

module _ (fields : List ℕ) where
  pub cut_at : (start : ℕ) (cs : List Command) (k : ℕ) (c : Command) → slice_get cs k ≡ Some c → slice_get (cut start fields cs) k ≡ Some (spelled_at start fields cs k c)
  cut_at start [] k c is = cc
  cut_at start (d ∷ cs) zero c is = let same : d ≡ c = cc in ap (λ (c : Command). Some (spelled_at start fields cs zero c)) same
  cut_at start (d ∷ cs) (suc k) c is = cut_at d.end cs k c is

  pub cut_none : (start : ℕ) (cs : List Command) (k : ℕ) → slice_get cs k ≡ None → slice_get (cut start fields cs) k ≡ None
  cut_none start [] k is = refl
  cut_none start (d ∷ cs) zero is = cc
  cut_none start (d ∷ cs) (suc k) is = cut_none d.end cs k is

  pub length-cut : (start : ℕ) (cs : List Command) → length (cut start fields cs) ≡ length cs
  length-cut start [] = refl
  length-cut start (c ∷ cs) = ap suc (length-cut c.end cs)

-- ---- the ends rise

cut_up_to : (start : ℕ) (cs : List Command) (count : ℕ) → IsCut start cs count → start ≤ count
cut_up_to start [] count cuts = omega arith
cut_up_to start (c ∷ cs) count cuts = let rest = cut_up_to c.end cs count cuts.1 in let here = cuts.0 in omega (arith, rest, here)

pub cut_within : (start : ℕ) (cs : List Command) (count k : ℕ) (c : Command) → IsCut start cs count → slice_get cs k ≡ Some c
    → (start_at start cs k ≤ c.end) × (c.end ≤ count)
cut_within start [] count k c cuts is = cc
cut_within start (d ∷ cs) count zero c cuts is =
    let same : d ≡ c = cc in
    let end = ap (λ (c : Command). c.end) same in
    let here = cuts.0 in
    let rest = cut_up_to d.end cs count cuts.1 in
    (omega (arith, here, end), omega (arith, rest, end))
cut_within start (d ∷ cs) count (suc k) c cuts is = cut_within d.end cs count k c cuts.1 is

-- a command starts where the one before it ends
pub start_behind : (start : ℕ) (cs : List Command) (k : ℕ) (c : Command) → slice_get cs k ≡ Some c → start_at start cs (suc k) ≡ c.end
start_behind start [] k c is = cc
start_behind start (d ∷ cs) zero c is = let same : d ≡ c = cc in ap (λ (c : Command). c.end) same
start_behind start (d ∷ cs) (suc k) c is = start_behind d.end cs k c is

pub start_before : (start : ℕ) (cs : List Command) (k : ℕ) (d : Command) → k < length cs → (slice_index_or cs k d).end ≡ start_at start cs (suc k)
start_before start [] k d lt = absurd (omega (arith, lt))
start_before start (c ∷ cs) zero d lt = refl
start_before start (c ∷ cs) (suc k) d lt = start_before c.end cs k d (omega (arith, lt))

-- ---- one more command

range_front : (xs ys : List ℕ) (i j : ℕ) → j ≤ length xs → slice_range (xs ++ ys) i j ≡ slice_range xs i j
range_front xs ys i j le = between_is (xs ++ ys) i j ∙ ap (drop i) (take-append-le j xs ys le) ∙ sym (between_is xs i j)

range_last : (xs ys : List ℕ) → slice_range (xs ++ ys) (length xs) (length (xs ++ ys)) ≡ ys
range_last xs ys = between_to_end (xs ++ ys) (length xs) (length (xs ++ ys)) (omega arith) ∙ drop_at xs ys (length xs) refl

module _ (fields more : List ℕ) (c : Command) (end : c.end ≡ length (fields ++ more)) where
  pub cuts_more : (start : ℕ) (cs : List Command) → IsCut start cs (length fields) → IsCut start (cs ++ c ∷ []) (length (fields ++ more))
  cuts_more start [] cuts = let all = length-append fields more in (omega (arith, cuts, end, all), end)
  cuts_more start (d ∷ cs) cuts = (cuts.0, cuts_more d.end cs cuts.1)

  -- what follows the fields of all others are those of the new one
  pub cut_more : (start : ℕ) (cs : List Command) → IsCut start cs (length fields)
      → cut start (fields ++ more) (cs ++ c ∷ []) ≡ cut start fields cs ++ record { call_id = c.call_id; params = more } ∷ []
  cut_more start [] cuts =
      ap (λ (ps : List ℕ). record { call_id = c.call_id; params = ps } ∷ [])
      (ap (λ s. slice_range (fields ++ more) s c.end) cuts ∙ ap (slice_range (fields ++ more) (length fields)) end ∙ range_last fields more)
  cut_more start (d ∷ cs) cuts =
      let within = cut_up_to d.end cs (length fields) cuts.1 in
      ap (λ (ps : List ℕ). record { call_id = d.call_id; params = ps } ∷ cut d.end (fields ++ more) (cs ++ c ∷ [])) (range_front fields more start d.end within)
      ∙ ap (λ l. record { call_id = d.call_id; params = slice_range fields start d.end } ∷ l) (cut_more d.end cs cuts.1)

-- ---- the bytes

-- the fields of the commands are all bytes from the start on
pub bytes_cut : (start : ℕ) (fields : List ℕ) (cs : List Command) → IsCut start cs (length fields) → sum_by (λ (s : Spelled). length s.params) (cut start fields cs) + start ≡ length fields
bytes_cut start fields [] cuts = let none : sum_by (λ (s : Spelled). length s.params) [] ≡ 0 = refl in omega (arith, cuts, none)
bytes_cut start fields (c ∷ cs) cuts =
    let rest = bytes_cut c.end fields cs cuts.1 in
    let here = cuts.0 in
    let within = cut_up_to c.end cs (length fields) cuts.1 in
    let one = sum_by-cons (λ (s : Spelled). length s.params) (record { call_id = c.call_id; params = slice_range fields start c.end }) (cut c.end fields cs) in
    let its = length-between fields start c.end within in
    omega (arith, rest, here, one, its)
