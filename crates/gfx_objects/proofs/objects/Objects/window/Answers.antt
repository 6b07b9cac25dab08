use Rattle.std.proofs.Common.{sym, ap, ◌∙◌}
use Rattle.std.specs.Prelude.{option_map}
use Rattle.gfx_model.specs.Views.{bound_window}
use Rattle.gfx_objects.specs.Object.{binding_of}
use Rattle.gfx_objects.specs.Objects.{answers}
use Rattle.gfx_objects.proofs.Resources.{window_of_buffer, window_of_image}
use Rattle.gfx_objects.proofs.Resting.{window_ends}
use Rattle.gfx_objects.proofs.objects.Objects.window.Goals as goal

pub returns-in-Buffer-clause-window : goal.returns-in-Buffer-clause-window
returns-in-Buffer-clause-window c =
    let k = c.args.self.now in
    let some = sym c.in_ok-size.ensures.row in
    c.bound_window.ensures ∙ window_of_buffer k c.args.id c.in_ok-size.field-0.now some c.in-Buffer.size c.in-Buffer.usage c.in-Buffer.bound c.in-Buffer.is

pub returns-in-None-clause-window : goal.returns-in-None-clause-window
returns-in-None-clause-window c =
    let k = c.args.self.now in
    let some = sym c.in_ok-size.ensures.row in
    c.bound_window-in-None.ensures ∙ ap (λ n. bound_window (answers k) n (option_map binding_of c.in-Image.bound)) c.image_size-length.ensures.size
    ∙ window_of_image k c.args.id c.in_ok-size.field-0.now some c.in-Image.format c.in-Image.width c.in-Image.height c.in-Image.usage c.in-Image.layout
    c.in-Image.bound c.in-Image.index c.in-Image.is c.in-None.is

pub returns-in-Buffer-clause-ends : goal.returns-in-Buffer-clause-ends
returns-in-Buffer-clause-ends c =
    window_ends c.args.self.now c.get.ensures.all c.args.id c.in_ok-size.field-0.now (sym c.in_ok-size.ensures.row) c.bound_window.result (returns-in-Buffer-clause-window c)

pub returns-in-None-clause-ends : goal.returns-in-None-clause-ends
returns-in-None-clause-ends c =
    window_ends c.args.self.now c.get.ensures.all c.args.id c.in_ok-size.field-0.now (sym c.in_ok-size.ensures.row) c.bound_window-in-None.result (returns-in-None-clause-window c)
