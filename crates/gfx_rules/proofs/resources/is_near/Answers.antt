use Rattle.std.proofs.Common.{sym, ◌∙◌}
use Rattle.gfx_model.specs.Views.{device_of}
use Rattle.gfx_rules.proofs.Near.{child_near, same_number}
use Rattle.gfx_rules.proofs.resources.is_near.Goals as goal

pub returns-then-not-is_device : goal.returns-then-not-is_device
returns-then-not-is_device g c =
    let v = g.A.Answers.view c.args.answers.now in
    same_number (device_of v c.args.id) (device_of v c.args.cb)
    (child_near v c.args.kind c.args.cb c.args.id (c.is_device.ensures c.if-not-is_device.true) c.requires.live
    (sym c.requires.parent ∙ c.if-parent-device.true ∙ c.requires.device) (λ zero. c.if-device-ne0.true (c.requires.device ∙ zero)))
