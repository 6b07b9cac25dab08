use Rattle.std.proofs.Common.{rules, ◌≡◌, [], ◌∷◌, Some}
use Rattle.gfx_model.specs.Events.Event.{QueuePresentKHR}
use Rattle.gfx_text_grammar.specs.FieldReading.{read_field, ◌⊛◌}
use Rattle.gfx_text_grammar.specs.Rows.{exactly, with_one, id_field, ids_field, short_field}
use Rattle.gfx_text.specs.Fields.{left_of}
use Rattle.gfx_text.proofs.reading.read_present_of_one.Goals as goal

pub returns-in_ok-presents-in-Ok : goal.returns-in_ok-presents-in-Ok
unfolding read_field
returns-in_ok-presents-in-Ok g c =
    let s = g.I.ReadId.style c.args.ids.now in
    let is : exactly with_one (id_field s "queue" ⊛ ids_field s "waits" ⊛ id_field s "swapchain" ⊛ short_field "index") (left_of c.args.left)
    ≡ Some (QueuePresentKHR c.in-Ok.field-0-0.0 c.in-Ok.field-0-1-0.0 (record { swapchain = c.in-Ok.field-0-1-1-0.0; index = c.in-Ok.field-0-1-1-1.0 } ∷ [])) =
    c.in-Ok.ensures with_one in
    search rules
