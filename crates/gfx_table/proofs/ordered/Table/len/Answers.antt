use Rattle.std.proofs.Common.{◌+◌, length, ap, ◌∙◌}
use Rattle.std.specs.FinMap as map
use Rattle.gfx_table.proofs.Leasts.{len-joined}
use Rattle.gfx_table.proofs.ordered.Table.len.Goals as goal

pub returns : goal.returns
returns g c =
    ap (λ n. n + c.len-2.result) c.len.ensures.len ∙ ap (λ n. length c.self.inside.rows.entries + n) c.len-2.ensures.len
    ∙ len-joined c.self.inside.rows.entries c.self.inside.spilled.map c.len.ensures.ordered c.self.invariant
    ∙ ap (λ s. map.len s.map) c.self.view_is
