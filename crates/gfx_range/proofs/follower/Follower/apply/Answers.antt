use Rattle.std.proofs.Common.{Some, refl, sym, ap, ◌∙◌}
use Rattle.gfx_model.specs.Events.{event_of}
use Rattle.gfx_range.proofs.Following.{quiet_one, shown_one}
use Rattle.gfx_range.proofs.follower.Follower.apply.Goals as goal

pub returns-in-Ok-Presented-clause-ok : goal.returns-in-Ok-Presented-clause-ok
returns-in-Ok-Presented-clause-ok c = λ h s.
    let did = c.in-Ok-Presented.ensures in
    shown_one c.args.self.now _ h 0 (event_of c.args.effect.now) s (sym did.rule) did.ok c.next_frame-number.result c.next_frame-number.ensures (ap Some c.unwrap_or.ensures) (sym c.in-Ok-Presented.field-0-is ∙ did.shown)

pub returns-in-Ok-Nothing-clause-ok : goal.returns-in-Ok-Nothing-clause-ok
returns-in-Ok-Nothing-clause-ok c = λ h s.
    let did = c.in-Ok-Nothing.ensures in
    quiet_one c.args.self.now _ h 0 (event_of c.args.effect.now) s (sym did.rule) did.ok refl (sym c.in-Ok-Nothing.field-0-is ∙ did.shown)
