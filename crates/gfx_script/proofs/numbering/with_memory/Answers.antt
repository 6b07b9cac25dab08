use Rattle.std.proofs.Common.{◌≡◌, ℕ, List, [], ◌∷◌, length, get_or, refl, arith}
use Rattle.gfx_script_model.specs.Ids.{uses_of, defines_of, map_ids}
use Rattle.gfx_script.proofs.numbering.with_memory.Goals as goal

-- a list of one number
one : (ns : List ℕ) → length ns ≡ 1 → get_or ns 0 0 ∷ [] ≡ ns
one [] h = absurd (omega (arith, h))
one (n ∷ []) h = refl
one (n ∷ m ∷ ns) h = absurd (omega (arith, h))

pub returns : goal.returns
unfolding uses_of defines_of map_ids
returns c = rw c.in-FillMemory.is (record { uses = one c.args.named.now c.requires.named; defines = refl; others = refl })
