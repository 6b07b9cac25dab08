use Rattle.std.proofs.Common.{◌≡◌, ◌<◌, ℕ, false, [], take, drop, reverse}
use Rattle.gfx_model.specs.Checks as words
use Rattle.gfx_rules.proofs.ids.new_faults.Given as goal

abbrev pub invariant-ids : goal.invariant-ids
invariant-ids g l = let v = g.A.Answers.view l.answers in record {
  left : words.new_faults v (reverse (take l.at l.ids)) (drop l.at l.ids) ≡ words.new_faults v [] l.ids;
  above : (x : ℕ) → l.greatest < x → words.is_among x (take l.at l.ids) ≡ false;
  below : (x : ℕ) → x < l.least → words.is_among x (take l.at l.ids) ≡ false;
}
