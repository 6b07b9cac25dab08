use Rattle.std.proofs.Common.{◌≡◌, length, vec_len, ap, ◌∙◌, rules}
use Rattle.std.specs.FinMap as map
use Rattle.gfx_table.proofs.Places.{len_map_of}
use Rattle.gfx_table.proofs.spill.SpillList.len.Goals as goal

pub returns-clause-len : goal.returns-clause-len
returns-clause-len g c =
    let same : vec_len c.self.inside.entries ≡ length c.self.inside.entries.items = search rules in
    c.len.ensures ∙ same ∙ len_map_of c.self.inside.entries.items c.self.invariant ∙ ap (λ s. map.len s.map) c.self.view_is
