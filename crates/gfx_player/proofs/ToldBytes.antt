-- What a source tells are bytes, so what holds of bytes holds of it.
use Rattle.std.proofs.Common.{ℕ, ◌<◌, ◌≤◌, ◌⊎◌, List, length, get_or, Option, Some, None, inl, inr, arith}
use Rattle.std.proofs.Math.ListN.{get_or-eq_default}
use Rattle.std.proofs.lemmas.Bool.{cases_lt}
use Rattle.std.specs.List.{All}
use Rattle.gfx_io.specs.Told.{IfTold, AreBytesIfTold}
use Rattle.gfx_grammar.specs.Reads.{AreBytes}

-- a number of the list, or the default behind its end
by_place : (xs : List ℕ) (i : ℕ) → All (λ b. b < 256) xs → (i < length xs) ⊎ (length xs ≤ i) → get_or xs i 0 < 256
by_place xs i all (inl within) = all i 0 within
by_place xs i all (inr past) = rw (get_or-eq_default xs 0 past) (omega arith)

are_bytes : (xs : List ℕ) → All (λ b. b < 256) xs → AreBytes xs
are_bytes xs all i = by_place xs i all (cases_lt i (length xs))

pub told_bytes : (before after : Option (List ℕ)) (P : List ℕ → List ℕ → Type 0) → AreBytesIfTold before → IfTold before after (λ x y. AreBytes x → P x y) → IfTold before after P
told_bytes None after P bytes h = tt
told_bytes (Some x) None P bytes h = absurd h
told_bytes (Some x) (Some y) P bytes h = h (are_bytes x bytes)
