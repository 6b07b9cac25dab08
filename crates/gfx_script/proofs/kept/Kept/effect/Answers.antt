use Rattle.gfx_model.specs.Events.{event_of}
use Rattle.std.proofs.lemmas.Result.{IfOk-weaker}
use Rattle.gfx_script.specs.Line.{event_of_kept}
use Rattle.gfx_script.proofs.Keeping.{nothing_made}
use Rattle.gfx_script.proofs.kept.Kept.effect.Goals as goal

pub returns-then-self-eq0 : goal.returns-then-self-eq0
returns-then-self-eq0 c =
    IfOk-weaker c.write.result _ _ (λ effect h. nothing_made (event_of_kept c.args.self.now) (event_of effect) c.args.named.now c.args.made.now h c.requires.made) c.write.ensures
