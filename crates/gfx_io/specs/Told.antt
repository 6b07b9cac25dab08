-- Facts on the bytes that a source has left or a sink took, which hold where they are told.
use Rattle.std.specs.Prelude.{ℕ, ◌<◌, List, Some, None, ⊤}
use Rattle.std.specs.List.{All}
use Rattle.std.specs.declared.option.Option.{Option}

-- the bytes are told
abbrev pub IsTold : Option (List ℕ) → Type 0
IsTold None = ⊥
IsTold (Some bytes) = ⊤

-- P holds of the bytes before and after, where they are told
abbrev pub IfTold : Option (List ℕ) → Option (List ℕ) → (List ℕ → List ℕ → Type 0) → Type 0
IfTold None new P = ⊤
IfTold (Some before) None P = ⊥
IfTold (Some before) (Some after) P = P before after

-- each number that is told is below 256
abbrev pub AreBytesIfTold : Option (List ℕ) → Type 0
AreBytesIfTold None = ⊤
AreBytesIfTold (Some bytes) = All (λ b. b < 256) bytes
