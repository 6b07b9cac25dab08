use Rattle.std.proofs.Common.{◌≡◌, ◌<◌, ℕ, true, false, take}
use Rattle.gfx_model.specs.Checks as words
use Rattle.gfx_rules.proofs.apart.rise.Given as goal

-- the numbers so far occur once, and none is greater than the last
abbrev pub invariant-ids : goal.invariant-ids
invariant-ids l = record {
  apart : words.is_distinct (take l.at l.ids) ≡ true;
  above : (x : ℕ) → l.last < x → words.is_among x (take l.at l.ids) ≡ false;
}
