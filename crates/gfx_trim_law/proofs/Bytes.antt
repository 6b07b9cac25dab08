-- The bytes of a file are bytes.
use Rattle.std.proofs.Common.{ℕ, List, [], ◌∷◌, ◌++◌, arith}
use Rattle.std.specs.Prelude.{flat_map}
use Rattle.std.specs.List.{AllByRecursion}
use Rattle.std.specs.Int.{w32, to_le_bytes}
use Rattle.gfx_model.specs.Events.{Event}
use Rattle.gfx_model.specs.Blocks.{Whole}
use Rattle.gfx_model.specs.Spelling.{HasSpelling, type_of, payload, encoding, header}
use Rattle.gfx_model.specs.Trimmed.{file_of}
use Rattle.gfx_grammar.specs.Reads.{AreBytes}
use Rattle.gfx_grammar.proofs.NumberLaws.{all_bytes}
use Rattle.gfx_grammar.proofs.ByteLaws.{AllBytes, both_bytes, are_bytes, le32_bytes, payload_all, block_all}

pub encoded : (m t : ℕ) (e : Event) → HasSpelling m e → AllBytes (encoding m t e)
unfolding encoding
encoded m t e spelled = block_all (type_of e) (payload m t e) (payload_all m t e spelled.fields)

made_bytes : (m : ℕ) (made : List Event) → AllByRecursion (HasSpelling m) made → AllBytes (flat_map (encoding m 0) made)
made_bytes m [] spelled = tt
made_bytes m (e ∷ es) spelled = both_bytes (encoding m 0 e) (flat_map (encoding m 0) es) (encoded m 0 e spelled.0) (made_bytes m es spelled.1)

standing_bytes : (ws : List Whole) → AllByRecursion (λ w. AreBytes w.bytes) ws → AllBytes (flat_map (λ w. w.bytes) ws)
standing_bytes [] are = tt
standing_bytes (w ∷ ws) are = both_bytes w.bytes (flat_map (λ w. w.bytes) ws) (all_bytes w.bytes are.0) (standing_bytes ws are.1)

pub header_bytes : (m : ℕ) → AllBytes (header m)
header_bytes m =
    both_bytes ((71 ∷ 70 ∷ 88 ∷ 82 ∷ [] ++ to_le_bytes w32 1000) ++ to_le_bytes w32 m) (to_le_bytes w32 0)
    (both_bytes (71 ∷ 70 ∷ 88 ∷ 82 ∷ [] ++ to_le_bytes w32 1000) (to_le_bytes w32 m)
    (omega arith, (omega arith, (omega arith, (omega arith, le32_bytes 1000)))) (le32_bytes m)) (le32_bytes 0)

-- a file of events that have a spelling, and of blocks of bytes
pub file_bytes : (m : ℕ) (made : List Event) (ws : List Whole) → AllByRecursion (HasSpelling m) made → AllByRecursion (λ w. AreBytes w.bytes) ws → AreBytes (file_of m made ws)
file_bytes m made ws spelled are =
    are_bytes (file_of m made ws) (both_bytes (header m ++ flat_map (encoding m 0) made) (flat_map (λ w. w.bytes) ws)
    (both_bytes (header m) (flat_map (encoding m 0) made) (header_bytes m) (made_bytes m made spelled)) (standing_bytes ws are))
