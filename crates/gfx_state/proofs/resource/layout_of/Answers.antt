use Rattle.std.proofs.Common.{sym, ◌∙◌}
use Rattle.gfx_state.proofs.Resources.{layout_answered, layout_nowhere}
use Rattle.gfx_state.proofs.resource.layout_of.Goals as goal

pub returns-in-Some : goal.returns-in-Some
returns-in-Some c = c.layout_in.ensures ∙ sym (layout_answered c.args.objects.now c.args.image _ (sym c.in-Some.ensures.row))

pub returns-in-None : goal.returns-in-None
returns-in-None c = sym (layout_nowhere c.args.objects.now c.args.image (sym c.in-None.ensures.row))
