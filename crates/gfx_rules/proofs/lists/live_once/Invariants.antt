use Rattle.std.proofs.Common.{◌≡◌, ◌<◌, ℕ, false, [], take, drop}
use Rattle.gfx_types.specs.declared.names.Kind.TheVariants as kind
use Rattle.gfx_model.specs.Table as table
use Rattle.gfx_model.specs.Checks as words
use Rattle.gfx_rules.proofs.New.{behind}
use Rattle.gfx_rules.proofs.lists.live_once.Given as goal

abbrev pub invariant-ids : goal.invariant-ids
invariant-ids g l = let v = g.A.Answers.view l.answers in record {
  left : words.first_broken v (table.live_once kind.CommandBuffer (behind l.ids l.at) (drop l.at l.ids)) ≡ words.first_broken v (table.live_once kind.CommandBuffer [] l.ids);
  above : (x : ℕ) → l.greatest < x → words.is_among x (take l.at l.ids) ≡ false;
  below : (x : ℕ) → x < l.least → words.is_among x (take l.at l.ids) ≡ false;
}
