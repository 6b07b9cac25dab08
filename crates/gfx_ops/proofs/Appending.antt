-- Lists that grow at their end, and an item of a list of which something holds.
use Rattle.std.proofs.Common.{◌≡◌, ℕ, ◌<◌, zero, suc, List, [], ◌∷◌, ◌++◌, length, take, get_or, ap, ◌∙◌, arith}
use Rattle.std.specs.List.{AllByRecursion}
use Rattle.std.proofs.Math.Seq.{take-append_seam}

-- what was at the start stays there
pub front_stays : {X : Type 0} (old more new : List X) → new ≡ old ++ more → take (length old) new ≡ old
front_stays old more new grown = ap (take (length old)) grown ∙ take-append_seam old more

pub all_at : {X : Type 0} (P : X → Type 0) (xs : List X) (i : ℕ) (d : X) → i < length xs → AllByRecursion P xs → P (get_or xs i d)
all_at P [] i d there all = absurd (omega arith)
all_at P (x ∷ xs) zero d there all = all.0
all_at P (x ∷ xs) (suc i) d there all = all_at P xs i d (omega arith) all.1
