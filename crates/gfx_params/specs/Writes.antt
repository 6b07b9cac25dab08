-- Bytes that are put over others.
use Rattle.std.specs.Prelude.{ℕ, List, length}
use lib.Seq.{paste}

-- the bytes with this text from a place on
abbrev pub written : List ℕ → ℕ → List ℕ → List ℕ
written old at text = paste old at text (length text)
