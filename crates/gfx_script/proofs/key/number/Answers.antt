use Rattle.std.proofs.Common.{ℕ, zero, suc, ◌+◌, ◌*◌, ◌<◌, ◌^◌, arith}
use Rattle.gfx_script.proofs.key.number.Goals as goal

-- there is room for one more letter
room : (i n : ℕ) → i < 8 → n < 256 ^ i → 256 * n + 255 < 2 ^ 64
room zero n l h = omega (arith, h)
room (suc zero) n l h = omega (arith, h)
room (suc (suc zero)) n l h = omega (arith, h)
room (suc (suc (suc zero))) n l h = omega (arith, h)
room (suc (suc (suc (suc zero)))) n l h = omega (arith, h)
room (suc (suc (suc (suc (suc zero))))) n l h = omega (arith, h)
room (suc (suc (suc (suc (suc (suc zero)))))) n l h = omega (arith, h)
room (suc (suc (suc (suc (suc (suc (suc zero))))))) n l h = omega (arith, h)
room (suc (suc (suc (suc (suc (suc (suc (suc i)))))))) n l h = absurd (omega (arith, l))

pub overflow_mul-number : goal.overflow_mul-number
overflow_mul-number c = omega (arith, room c.letters.letter-index c.letters.number (omega (arith, c.letters-test.true, c.requires)) c.letters.invariant.1)
