use Rattle.std.proofs.Common.{◌≡◌, ◌<◌, ◌^◌, drop}
use Rattle.gfx_script.specs.Keys.{packed}
use Rattle.gfx_script.proofs.key.number.Given as goal

-- what the letters that are left make of the number, and how large it may be
abbrev pub invariant-letters : goal.invariant-letters
invariant-letters l = (packed l.number (drop l.letter-index l.letters) ≡ packed 0 l.letters) × (l.number < 256 ^ l.letter-index)
