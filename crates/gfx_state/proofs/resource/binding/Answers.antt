use Rattle.std.proofs.Common.{None, is_some, sym, ap, ◌∙◌}
use Rattle.std.specs.Prelude.{if◌then◌else◌}
use Rattle.gfx_objects.specs.Objects.{answers}
use Rattle.gfx_state.proofs.Resources.{bound_answered}
use Rattle.gfx_state.proofs.resource.binding.Goals as goal

pub returns : goal.returns
returns c =
    let v = answers c.args.objects.now in
    c.bound_in.ensures ∙ sym (bound_answered c.args.objects.now c.args.id _ (sym c.in_ok-object.ensures.row))
    ∙ ap (λ t. if t then v.bound c.args.id else None) (ap is_some c.in_ok-_window.ensures.window)
