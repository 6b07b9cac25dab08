use Rattle.std.proofs.Common.{◌∷◌, [], is_some, sym, ap, ◌∙◌}
use Rattle.gfx_model.specs.Events.Event.{InitImage}
use Rattle.gfx_objects.specs.Objects.{answers}
use Rattle.gfx_state.proofs.Writing.{wrote_as, wrote_none}
use Rattle.gfx_state.proofs.Resources.{layout_there, layout_unusable, layout_unset}
use Rattle.gfx_state.proofs.resource.write_layout.Goals as goal

pub returns-then-layout-eq0 : goal.returns-then-layout-eq0
returns-then-layout-eq0 g c = wrote_none (layout_unset (answers c.args.objects.now) c.args.image (sym c.layout_of-layout.ensures ∙ c.if-layout-eq0.true))

pub returns-in-Some : goal.returns-in-Some
returns-in-Some g c =
    let v = answers c.args.objects.now in
    let is = layout_there v c.args.image (sym (ap is_some c.in-Some.ensures.window)) (λ e. c.if-layout-eq0.false (c.layout_of-layout.ensures ∙ e)) in
    wrote_as (ap (λ l. InitImage c.args.image l [] ∷ []) c.layout_of-layout.ensures ∙ sym is) c.write_init_image.ensures

pub returns-in-None : goal.returns-in-None
returns-in-None g c = wrote_none (layout_unusable (answers c.args.objects.now) c.args.image (sym (ap is_some c.in-None.ensures.window)))
