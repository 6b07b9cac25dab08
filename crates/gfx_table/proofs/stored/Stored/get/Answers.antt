use Rattle.std.proofs.Common.{option_and_then, sym, ap, ◌∙◌}
use Rattle.std.specs.FinMap as map
use Rattle.slab.specs.Slab.{get}
use Rattle.gfx_table.proofs.Storing.{get-stored}
use Rattle.gfx_table.proofs.stored.Stored.get.Goals as goal

pub returns-in-Some : goal.returns-in-Some
returns-in-Some g c =
    c.get-in-Some.ensures ∙ ap (option_and_then (get c.self.inside.rows)) c.in-Some.ensures ∙ sym (get-stored c.self.inside.rows c.self.inside.keys.map c.args.id) ∙ ap (λ s. map.get s.map c.args.id) c.self.view_is

pub returns-in-None : goal.returns-in-None
returns-in-None g c =
    ap (option_and_then (get c.self.inside.rows)) c.in-None.ensures ∙ sym (get-stored c.self.inside.rows c.self.inside.keys.map c.args.id) ∙ ap (λ s. map.get s.map c.args.id) c.self.view_is
