use Rattle.std.proofs.Common.{◌≡◌, drop}
use Rattle.gfx_text.proofs.Numbers.{number_from}
use Rattle.gfx_text.proofs.words.number_of.Given as goal

-- the digits that are left give the number
abbrev pub invariant-digits : goal.invariant-digits
invariant-digits l = number_from l.number (drop l.digit-index l.word) ≡ number_from 0 l.word
