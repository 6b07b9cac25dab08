use Rattle.std.proofs.Common.{◌∙◌}
use Rattle.gfx_model.specs.Views.{is_one}
use Rattle.gfx_objects.specs.Objects.{answers}
use Rattle.gfx_tracker.specs.Sought.{is_sought}
use Rattle.gfx_tracker.proofs.Seeking.{first_is}
use Rattle.gfx_tracker.proofs.sought.Sought.first.Goals as goal

pub returns : goal.returns
returns c =
    let v = answers c.args.objects.now in
    c.ok.ensures.value ∙ first_is (is_one v (is_sought c.args.self)) v.ids c.at.result c.at.ensures.found c.at.ensures.passed
