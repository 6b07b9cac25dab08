-- What a sink took, and what is held back behind that.
use Rattle.std.specs.Prelude.{◌≡◌, ℕ, List, ◌++◌, Option}
use Rattle.std.specs.Io.KnownBytes.{Appends}

-- all of this was taken but what is held
abbrev pub Held : Option (List ℕ) → Option (List ℕ) → List ℕ → List ℕ → Type 0
Held before after held all = (written : List ℕ) × Appends before after written × (written ++ held ≡ all)

-- the same of a prefix of this
abbrev pub HeldPart : Option (List ℕ) → Option (List ℕ) → List ℕ → List ℕ → Type 0
HeldPart before after held all = (front rest : List ℕ) × Held before after held front × (all ≡ front ++ rest)
