use Rattle.std.proofs.Common.{◌∙◌, ap}
use Rattle.std.proofs.lemmas.Result.{on_ok_weaker}
use Rattle.gfx_device.specs.Rows.{copied}
use Rattle.gfx_device.proofs.Copies.{changed_back, same_source}
use Rattle.gfx_device.proofs.device.Device.copy_between.Goals as goal

pub returns-clause-ok : goal.returns-clause-ok
returns-clause-ok c =
    let source = same_source c.args.self.now.places _ c.args.to c.args.from _ c.requires.apart c.remove-target.ensures.updates c.index-source.ensures in
    on_ok_weaker c.copy_apart-done.result
    (λ ok. changed_back c.args.self.now.places _ _ c.args.to _ _ _ _ c.remove-target.ensures.value c.remove-target.ensures.updates
    (c.insert_reserved-key.ensures.key ∙ c.remove-target.ensures.key_is_next) c.insert_reserved-key.ensures.updates
    (ok ∙ ap (λ z. copied c.args.copy (λ x. z) c.args.copy.rows c.remove-target.result) source))
    c.copy_apart-done.ensures.ok
