-- What follows fields that are skipped.
use Rattle.std.proofs.Common.{◌≡◌, ℕ, ◌≤◌, List, length, take, drop, Option, Some, None, refl}
use Rattle.std.specs.Int.{w64}
use Rattle.std.specs.Prelude.{MatchOption}
use Rattle.std.proofs.lemmas.Bool.{le-ltb}
use Rattle.gfx_grammar.specs.Reading.{Reader, read_number, read_raw, read_both, read_as}
use Rattle.gfx_params.specs.Gives.{StandsBehind}

-- what follows a length and so many bytes
pub raw_skipped : (bytes behind rest : List ℕ) (n : ℕ) → read_number w64 bytes ≡ Some (n, behind) → n ≤ length behind → rest ≡ drop n behind
    → StandsBehind (read_raw bytes) rest
unfolding read_raw
raw_skipped bytes behind rest n is fits back = (take n behind, rw (is, le-ltb (length behind) n fits, back) refl)

-- what follows the second of two follows both
pub both_skipped : {A B R : Type 0} (now : R → List ℕ) (r : Reader A) (s : Reader B) (bytes behind : List ℕ) (x : A) (result : Option R) → r bytes ≡ Some (x, behind)
    → MatchOption result (s behind ≡ None) (λ rest. StandsBehind (s behind) (now rest))
    → MatchOption result (read_both r s bytes ≡ None) (λ rest. StandsBehind (read_both r s bytes) (now rest))
unfolding read_both
both_skipped now r s bytes behind x None is none = rw (is, none) refl
both_skipped now r s bytes behind x (Some rest) is (y, found) = ((x, y), rw (is, found) refl)

-- what follows the fields of a record follows the record
pub record_skipped : {A X R : Type 0} (now : R → List ℕ) (build : A → X) (r : Reader A) (bytes : List ℕ) (result : Option R)
    → MatchOption result (r bytes ≡ None) (λ rest. StandsBehind (r bytes) (now rest))
    → MatchOption result (read_as build r bytes ≡ None) (λ rest. StandsBehind (read_as build r bytes) (now rest))
unfolding read_as
record_skipped now build r bytes None none = rw none refl
record_skipped now build r bytes (Some rest) (x, found) = (build x, rw found refl)
