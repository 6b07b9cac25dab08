use Rattle.std.proofs.Common.{◌-◌}
use Rattle.std.specs.Prelude.{map}
use Rattle.gfx_grammar.specs.Reading.{read_list}
use Rattle.gfx_params.proofs.Items.{Continues}
use Rattle.gfx_params.proofs.lists.read_items.Given as goal

-- the items that were read, and then those that follow
abbrev pub invariant-items : goal.invariant-items
invariant-items g l =
    let item = g.T.ReadFields in
    Continues item.reader (map item.seen l.items.items) (l.count - l.counter) l.rest (read_list item.reader l.bytes)
