-- Blocks and their bytes: a block is its type and its payload.
use Rattle.std.proofs.Common.{◌≡◌, ℕ, ◌+◌, List, ◌++◌, length, take, drop, sym, ap, ◌∙◌, arith, append_assoc, length-drop, take-append-drop, drop-drop}
use Rattle.std.specs.Int.{w32, w64, to_le_bytes}
use Rattle.std.proofs.lemmas.List.{take_all, length-take-le}
use Rattle.gfx_model.specs.Spelling.{block_bytes}
use Rattle.gfx_model.specs.Blocks.{size_field, type_field, payload_field}
use Rattle.gfx_grammar.specs.Reads.{AreBytes}
use Rattle.gfx_grammar.proofs.NumberLaws.{wide32, wide64, AreBytes-take, AreBytes-drop}

-- a block is its type and its payload
pub block-parts : (bytes : List ℕ) → AreBytes bytes → length bytes ≡ 12 + size_field bytes → bytes ≡ block_bytes (type_field bytes) (payload_field bytes)
block-parts bytes fit long =
    let size = size_field bytes in
    let kind = type_field bytes in
    let load = payload_field bytes in
    let whole : load ≡ drop 12 bytes = take_all size (drop 12 bytes) (omega (arith, length-drop 12 bytes, long)) in
    let len : length load ≡ size = length-take-le size (drop 12 bytes) (omega (arith, length-drop 12 bytes, long)) in
    let first : to_le_bytes w64 size ≡ take 8 bytes = wide64.back (take 8 bytes) (length-take-le 8 bytes (omega (arith, long))) (AreBytes-take 8 bytes fit) in
    let behind8 = drop 8 bytes in
    let second : to_le_bytes w32 kind ≡ take 4 behind8 = wide32.back (take 4 behind8) (length-take-le 4 behind8 (omega (arith, length-drop 8 bytes, long))) (AreBytes-take 4 behind8 (AreBytes-drop 8 bytes fit)) in
    sym (ap (λ n. (to_le_bytes w64 n ++ to_le_bytes w32 kind) ++ load) len
    ∙ append_assoc (to_le_bytes w64 size) (to_le_bytes w32 kind) load
    ∙ ap (λ (z : List ℕ). to_le_bytes w64 size ++ (to_le_bytes w32 kind ++ z)) whole
    ∙ ap (λ (z : List ℕ). z ++ (to_le_bytes w32 kind ++ drop 12 bytes)) first
    ∙ ap (λ (z : List ℕ). take 8 bytes ++ (z ++ drop 12 bytes)) second
    ∙ ap (λ (z : List ℕ). take 8 bytes ++ z) (take4 bytes)
    ∙ take-append-drop 8 bytes)
  where
    take4 : (bytes : List ℕ) → take 4 (drop 8 bytes) ++ drop 12 bytes ≡ drop 8 bytes
    take4 bytes = ap (λ (z : List ℕ). take 4 (drop 8 bytes) ++ z) (sym (drop-drop 4 8 bytes)) ∙ take-append-drop 4 (drop 8 bytes)
