use Rattle.std.proofs.Common.{Some, ◌&&◌, is_some, ap, sym, ◌∙◌}
use Rattle.std.specs.List.{list_all}
use Rattle.std.specs.FinMap as map
use Rattle.gfx_model.specs.Events.{event_of_call}
use Rattle.gfx_model.specs.Steps.{resources_of}
use Rattle.gfx_commands.specs.Recording.{names}
use Rattle.gfx_commands.specs.Recordings.{buffers}
use Rattle.gfx_commands.proofs.Buffers.{found}
use Rattle.gfx_commands.proofs.rows.Rows.names_all.Goals as goal

pub returns-in-Some : goal.returns-in-Some
returns-in-Some c =
    let xs = resources_of (event_of_call c.args.call.now) in
    let m = c.args.self.now.map in
    let some = ap (λ s. map.get s.map c.args.cb) (sym c.self.view_is) ∙ sym c.in-Some.ensures in
    let its = found m c.args.cb (Some c.in-Some.row.now) some in
    c.names_all.ensures
    ∙ ap (λ p. list_all p xs) (λ i x. (c.uses.ensures.members x ∙ sym (ap (names x) its)) i)
    ∙ sym (ap (λ b. b && list_all (λ x. names x (buffers m c.args.cb)) xs) (ap is_some some))
