use Rattle.std.proofs.lemmas.Result.{on_ok_weaker}
use Rattle.gfx_device.proofs.Copies.{changed_slot}
use Rattle.gfx_device.proofs.device.Device.fill.Goals as goal

pub returns-clause-ok : goal.returns-clause-ok
returns-clause-ok c = on_ok_weaker c.fill.result (changed_slot c.args.self.now.places c.args.place _ _ _ c.index_mut-bytes.ensures.value) c.fill.ensures.ok
