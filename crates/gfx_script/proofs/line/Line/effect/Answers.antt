use Rattle.std.proofs.Common.{length, ap, ◌∙◌}
use Rattle.gfx_script.proofs.line.Line.effect.Goals as goal

pub effect-requires-clause-named : goal.effect-requires-clause-named
effect-requires-clause-named c = c.requires.used ∙ ap length c.args.self.now.used

pub effect-requires-clause-made : goal.effect-requires-clause-made
effect-requires-clause-made c = c.requires.defined ∙ ap length c.args.self.now.defined
