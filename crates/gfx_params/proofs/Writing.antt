-- Bytes that are put one after the other.
use Rattle.std.proofs.Common.{◌≡◌, ℕ, ◌+◌, ◌≤◌, List, ◌++◌, length, refl, sym, ap, ◌∙◌, arith, length-append}
use Rattle.std.proofs.lemmas.List.Edits.{paste-paste}
use lib.Seq.{paste, length-paste}
use Rattle.gfx_params.specs.Writes.{written}

-- a text behind another one
pub written_on : (old : List ℕ) (at : ℕ) (first last : List ℕ) → at + length first + length last ≤ length old
    → written (written old at first) (at + length first) last ≡ written old at (first ++ last)
written_on old at first last room =
    paste-paste old at first last (length first) (length last) refl refl (omega (arith, room))
    ∙ ap (λ n. paste old at (first ++ last) n) (sym (length-append first last))

-- no more bytes
pub length-written : (old : List ℕ) (at : ℕ) (text : List ℕ) → at + length text ≤ length old → length (written old at text) ≡ length old
length-written old at text room = length-paste old at text (length text) room (omega arith)
